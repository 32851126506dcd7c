pub mod Ray
