-- Laws about the definitions of specs/.
pub mod Forms
pub mod Contained
pub mod Joined
pub mod Listed
pub mod Told
pub mod Body
pub mod Listing
pub mod Filed
pub mod Exact
pub mod Cut
pub mod Places
pub mod One
pub mod Formed
