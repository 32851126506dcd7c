pub mod Congruence
pub mod Ends
pub mod Merging
pub mod Ordered
pub mod Parts
pub mod Unique
