-- Laws about the tables.
pub mod Among
pub mod Making
pub mod Tiling
pub mod Counts
pub mod Placing
pub mod Fronts
