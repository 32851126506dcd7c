pub mod Fills
pub mod Links
