pub mod Grid
pub mod Flood
pub mod Patterns
pub mod Survey
pub mod Sides
