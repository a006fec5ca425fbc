-- Laws about the definitions of specs/.
pub mod Widths
pub mod Texts
pub mod Posted
pub mod Bounds
