-- Numbers in base ten and dates, on a list of bytes.
pub mod Numbers
pub mod Dates
