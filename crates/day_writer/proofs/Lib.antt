-- Laws about the definitions of specs/.
pub mod Decides
pub mod Stored
pub mod First
pub mod Trips
pub mod Handed
