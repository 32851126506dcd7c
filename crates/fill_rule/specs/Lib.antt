pub mod FillRule
