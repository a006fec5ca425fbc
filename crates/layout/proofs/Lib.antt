-- Laws about the definitions of specs/.
pub mod Judged
pub mod Passbooks
pub mod Padded
