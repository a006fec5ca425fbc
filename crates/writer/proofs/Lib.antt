-- Laws about the definitions of specs/.
pub mod Written
pub mod Sizes
pub mod Requests
pub mod Taken
pub mod Agree
pub mod Trips
pub mod Held
pub mod Again
pub mod Rewritten
pub mod NoTwo
pub mod Totals
pub mod Six
pub mod Told
pub mod Built
pub mod Frame
pub mod Summed
pub mod Decided
