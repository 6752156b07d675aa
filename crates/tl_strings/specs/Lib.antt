pub mod Strings
pub mod Steps
pub mod Words
pub mod Swept
pub mod Pairs
