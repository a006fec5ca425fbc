-- Laws about the definitions of specs/.
pub mod Values
pub mod Digits
pub mod Dated
