-- Laws about the definitions of specs/.
pub mod Alike
pub mod Paid
pub mod Sought
pub mod Named
pub mod After
pub mod Marked
