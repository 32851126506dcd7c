-- The laws of `specs/Contour.antt`: a list turned round in place, and one contour.
pub mod Reversal
pub mod OneContour
