pub mod Undrawn
pub mod Opened
pub mod Closed
pub mod Worked
pub mod Lists
mod Examples
