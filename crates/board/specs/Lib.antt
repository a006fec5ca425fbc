-- The members' board.
pub mod Passing
pub mod Each
pub mod First
pub mod Calls
