pub mod Rows
pub mod Rule
pub mod Ends
pub mod Lines
pub mod Levels
