pub mod Ends
pub mod Walk
pub mod Writing
