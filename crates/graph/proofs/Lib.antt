pub mod Flat
pub mod Merged
pub mod Node
pub mod Numbering
pub mod Parts
pub mod Fronts
