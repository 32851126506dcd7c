pub mod Area
pub mod Points
pub mod Contour
