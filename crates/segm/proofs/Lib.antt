pub mod Segments
pub mod Lots
