-- What one result record may say of its request.
pub mod Items
pub mod Amounts
pub mod Meeting
pub mod Marks
pub mod Same
pub mod Possible
