-- The laws of `specs/Writing.antt`: the loop of one walk, then the loop of all.
pub mod OneWalk
pub mod Written
