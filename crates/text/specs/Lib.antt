pub mod Grammar
pub mod Writing
pub mod Storing
