pub mod Runs
pub mod Accepted
