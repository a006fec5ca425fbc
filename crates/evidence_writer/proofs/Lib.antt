-- Laws about the definitions of specs/.
pub mod Decides
pub mod Built
pub mod Units
pub mod Told
pub mod Listed
pub mod Stored
pub mod Said
pub mod Ends
pub mod Trailer
pub mod Accepted
pub mod Fixed
pub mod Rewritten
pub mod Never
pub mod Trips
pub mod First
pub mod Handed
