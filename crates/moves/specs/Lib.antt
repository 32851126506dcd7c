pub mod Bits
pub mod Steps
pub mod Moves
pub mod Begins
pub mod ByEnd
pub mod Worth
