-- Laws about the kinds.
pub mod Finding
pub mod Forms
pub mod Known
