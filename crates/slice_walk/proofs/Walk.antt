-- The laws of `specs/Walk.antt`: one walk by its turns, then all walks, where they find no move, and what of the links they take.
pub mod Till
pub mod AllWalks
pub mod Stuck
pub mod SameEnds
