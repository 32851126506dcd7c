pub mod Fits
pub mod OnePoint
pub mod Splitting
