-- A day file written.
pub mod Writing
pub mod Given
pub mod First
pub mod Apart
