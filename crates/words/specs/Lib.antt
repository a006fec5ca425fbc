-- What stands between marks.
pub mod Fields
