pub mod Points
pub mod Area
pub mod Contour
