-- What may be sent as evidence.
pub mod Evidence
