pub mod Board
pub mod Hands
pub mod Rule
pub mod Steps
pub mod Calls
