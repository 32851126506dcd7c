pub mod Walk
pub mod Flat
pub mod Following
