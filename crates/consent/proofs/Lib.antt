-- Laws about the definitions of specs/.
pub mod Asked
pub mod Marked
pub mod Stages
pub mod Agreed
pub mod Told
pub mod Exact
pub mod First
