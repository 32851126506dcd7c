pub mod Faults
pub mod Faultless
pub mod Lots
