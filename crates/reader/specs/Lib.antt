-- One whole file.
pub mod Judged
pub mod Totals
pub mod Keys
pub mod Reading
pub mod Meets
pub mod First
pub mod Samples
