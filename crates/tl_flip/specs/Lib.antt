pub mod Flips
pub mod Approach
