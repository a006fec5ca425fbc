-- A request file taken apart into lent room.
pub mod Taking
pub mod Says
