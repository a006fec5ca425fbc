-- Laws about the definitions of specs/.
pub mod Found
pub mod Told
pub mod Exact
