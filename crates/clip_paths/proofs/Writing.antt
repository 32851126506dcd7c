-- The laws of `specs/Writing.antt`: points, one path, all paths, and what they come to.
pub mod Links
pub mod Points
pub mod OnePath
pub mod AllPaths
pub mod Found
