-- The laws of `specs/Grammar.antt`: texts cut at a byte.
pub mod Pieces
pub mod Finding
