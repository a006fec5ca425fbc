-- The frame of signed evidence.
pub mod Numbers
pub mod Framing
pub mod Sizes
pub mod Listing
pub mod Framed
pub mod Reading
pub mod One
pub mod Shaped
pub mod Shortened
