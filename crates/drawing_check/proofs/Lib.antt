pub mod Drawing
pub mod Memory
pub mod Lots
