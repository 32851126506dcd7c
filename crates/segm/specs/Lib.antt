pub mod Segments
pub mod Lots
pub mod CaseA
