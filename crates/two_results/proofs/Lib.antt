-- Two results of one debit request.
pub mod Firsts
pub mod Staged
pub mod Bytes
pub mod Records
pub mod Headers
pub mod Lists
pub mod Shared
pub mod Story
pub mod Told
pub mod Compared
