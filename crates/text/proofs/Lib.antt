pub mod Storing
pub mod Cases
pub mod Grammar
pub mod Writing
