-- The laws of `specs/Run.antt`: what is written is read back, what an accepted run has, and what a run answers to its verdict.
pub mod ReadBack
pub mod Accepted
pub mod Answers
