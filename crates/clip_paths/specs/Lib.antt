pub mod Paths
pub mod Writing
