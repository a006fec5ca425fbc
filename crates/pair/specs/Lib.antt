-- A request meets its result.
pub mod Results
pub mod Pairing
pub mod Assigned
pub mod First
pub mod Trailers
pub mod Lists
