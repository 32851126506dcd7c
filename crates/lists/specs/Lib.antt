pub mod Members
pub mod Sums
pub mod Written
pub mod UpFrom
pub mod Chain
