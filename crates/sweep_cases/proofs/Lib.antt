pub mod Drawings
pub mod Computed
