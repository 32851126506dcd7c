pub mod Old
pub mod Reading
pub mod Rows
pub mod Forms
pub mod Lengths
