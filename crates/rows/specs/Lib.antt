-- How a record's rows are laid out.
pub mod Laid
