-- Laws about the board: of the loop over it, of what is lent to it, and of what a posting does.
pub mod Sought
pub mod Repeats
pub mod Settled
pub mod Passes
pub mod Stages
pub mod Covered
pub mod Each
pub mod Money
pub mod Days
pub mod Once
pub mod First
pub mod Stepped
pub mod Whole
