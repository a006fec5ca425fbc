-- The file to be written.
pub mod Bytes
pub mod Records
pub mod Files
