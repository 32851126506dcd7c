pub mod Walk
pub mod Ends
pub mod Writing
