-- Laws about the definitions of specs/.
pub mod Stages
pub mod Others
pub mod Marks
pub mod Possible
pub mod Keys
pub mod Said
pub mod First
pub mod Matched
pub mod Exact
pub mod Money
pub mod Named
pub mod Answered
pub mod Applications
pub mod Lent
