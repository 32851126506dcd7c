pub mod Ends
pub mod Ordering
