-- Record after record of one file.
pub mod Steps
pub mod Walks
pub mod Walkers
