-- Laws about the definitions of specs/, for every crate above.
pub mod Bools
pub mod Leasts
pub mod Sums
pub mod Parts
pub mod Pieces
pub mod Stores
pub mod Every
pub mod Joins
pub mod Tabs
pub mod Positions
pub mod Answers
