-- The evidence file to be written.
pub mod Units
pub mod Files
