-- Laws about the definitions of specs/.
pub mod Places
pub mod Bases
pub mod Differ
pub mod Compared
