-- Laws of the walk.
pub mod Steps
pub mod Records
pub mod Stepped
pub mod OneWalk
