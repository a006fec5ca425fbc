-- What is told, as numbers.
pub mod Numbers
