pub mod Sweep
pub mod Stored
pub mod Open
