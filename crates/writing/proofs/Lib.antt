pub mod Lines
pub mod Lengths
pub mod Puts
pub mod Cases
