pub mod Loops
pub mod Splitting
