-- One record against its rows.
pub mod Items
pub mod Rules
pub mod Judging
