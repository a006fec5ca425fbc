-- Laws about the definitions of specs/.
pub mod Outcome
pub mod Guess
pub mod Makers
pub mod Named
pub mod Marking
pub mod Parts
