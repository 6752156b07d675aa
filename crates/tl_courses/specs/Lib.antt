pub mod Courses
pub mod Coins
