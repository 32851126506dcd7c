pub mod Sides
pub mod Verticals
