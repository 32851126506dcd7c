-- The laws of `specs/Cutting.antt`: paths in lists, contours one by one, one walk, then all.
pub mod InLists
pub mod ManyContours
pub mod OneWalk
pub mod AllWalks
