pub mod Strip
pub mod Neighbours
