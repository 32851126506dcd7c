pub mod Cases
pub mod Walking
pub mod Run
pub mod SliceContours
