-- The laws of `specs/Bins.antt`: the items of the memory, what the links reach, and what storing leaves.
pub mod Items
pub mod Links
pub mod Stored
pub mod Sighted
