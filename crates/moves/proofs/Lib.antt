pub mod LinkValue
pub mod Bits
pub mod Steps
pub mod Worth
pub mod Moves
pub mod Begins
pub mod ByEnd
pub mod SameEnds
