-- The laws of `specs/Points.antt`: coordinates of points, paths written one after another, and read back.
pub mod Coordinates
pub mod Written
pub mod CutWritten
