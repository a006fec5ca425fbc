-- A request file taken apart into lent room, and written again.
pub mod Bodies
pub mod Stored
pub mod Exact
pub mod Trips
