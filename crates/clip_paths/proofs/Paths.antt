-- The laws of `specs/Paths.antt`: steps by the moves of the walk; links that change no path; so a run's paths by the drawing's own line bits (`Masked`); that
-- lots change none.
pub mod Steps
pub mod NoLines
pub mod SameEnds
pub mod Masked
pub mod Lots
