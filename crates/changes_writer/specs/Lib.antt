-- EB12: the refused records of an EB11.
pub mod Building
pub mod Writing
pub mod Says
pub mod Layout
