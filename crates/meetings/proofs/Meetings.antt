-- The laws of `specs/Meetings.antt`: segments that do not meet wrongly.
pub mod Apart
pub mod Right
pub mod OneSide
