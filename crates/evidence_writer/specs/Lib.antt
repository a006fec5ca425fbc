-- Writing an evidence file.
pub mod Writing
pub mod Given
pub mod Apart
pub mod First
