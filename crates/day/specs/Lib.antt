-- One day in one file.
pub mod Contents
pub mod Bodies
pub mod Reading
pub mod Meets
pub mod First
pub mod Holds
pub mod Parts
pub mod One
pub mod Long
