-- One whole evidence file, EI13.
pub mod Blocks
pub mod Stopping
pub mod Judged
pub mod Reading
pub mod Lying
pub mod Meets
pub mod Stages
pub mod Parts
pub mod First
