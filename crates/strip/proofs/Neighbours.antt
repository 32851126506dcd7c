-- The laws of `specs/Neighbours.antt`, from the list of one strip up to the sweep: where every event passes its tests, no two segments meet wrongly
-- (`NumberedPlaces`).
pub mod StripList
pub mod Upright
pub mod Passes
pub mod Event
pub mod NumberedPlaces
