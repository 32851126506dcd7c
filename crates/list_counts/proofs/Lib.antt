pub mod Lowest
pub mod Points
pub mod Counts
pub mod Fills
