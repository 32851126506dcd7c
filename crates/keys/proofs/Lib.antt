pub mod Keyed
pub mod Joined
pub mod Merging
pub mod Inserting
