-- Laws about the definitions of specs/.
pub mod Walked
pub mod Written
