-- The laws of `specs/Strip.antt`, from signs of integers up to the theorem: two segments that are ordered in every strip that both span do not meet wrongly
-- (`Tiers`).
pub mod Signs
pub mod Gap
pub mod Apart
pub mod Vertical
pub mod Above
pub mod Visits
pub mod Compare
pub mod Tiers
pub mod Clear
