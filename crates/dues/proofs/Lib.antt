-- Laws about the definitions of specs/.
pub mod Dates
pub mod Marks
pub mod Readied
pub mod Requested
pub mod Bounded
pub mod Whole
pub mod OneTelling
