-- Keys: which repeats an earlier one, where one stands among others, and where they stand in a file.
pub mod Keys
pub mod Stands
pub mod Hashes
pub mod Chains
pub mod Keyed
