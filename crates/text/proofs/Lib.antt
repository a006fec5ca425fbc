-- Laws about the definitions of specs/.
pub mod Classes
pub mod Passbooks
