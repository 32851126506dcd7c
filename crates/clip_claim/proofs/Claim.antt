-- The laws of `specs/Claim.antt`, up to the theorem of inside and outside together (`Together`).
pub mod Own
pub mod Together
