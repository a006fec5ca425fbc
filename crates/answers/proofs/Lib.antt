-- Laws about the definitions of specs/.
pub mod Refusals
pub mod Tellings
pub mod OneTelling
pub mod Stored
pub mod Lies
pub mod OfDay
