-- What became of each request.
pub mod Outcomes
pub mod Sums
pub mod Listed
pub mod Makers
pub mod Samples
pub mod Marked
