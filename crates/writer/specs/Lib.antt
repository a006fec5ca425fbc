-- A request file written, and taken apart.
pub mod Writing
pub mod Apart
pub mod Says
