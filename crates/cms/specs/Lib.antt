-- The face for C.
pub mod Profiles
pub mod Yes
