-- Laws about the definitions of specs/.
pub mod Rows
pub mod Over
pub mod Lengths
pub mod Sizes
pub mod Stores
pub mod Built
pub mod Bodies
pub mod Made
pub mod Pieces
pub mod Laying
