pub mod Members
pub mod Sums
pub mod Written
pub mod UpFrom
pub mod Entries
pub mod Chain
