-- The laws of `specs/Verticals.antt`: the gaps of the list, what is clear of a vertical segment, and the column of the ends at its x.
pub mod Gaps
pub mod ClearOf
pub mod Columns
