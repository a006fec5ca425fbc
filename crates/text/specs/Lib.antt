-- Characters, on a list of bytes.
pub mod Characters
pub mod Passbook
