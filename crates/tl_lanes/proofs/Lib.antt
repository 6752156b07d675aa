pub mod Choices
pub mod Lanes
pub mod Rows
pub mod Steps
pub mod OverUnder
