pub mod Runs
pub mod Accepted
pub mod Cases
