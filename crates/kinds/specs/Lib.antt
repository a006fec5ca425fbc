-- The kinds of files and of pairs.
pub mod Kinds
pub mod Pairs
