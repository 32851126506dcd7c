pub mod Contours
pub mod Run
pub mod Walking
