pub mod Layouts
pub mod Coins
pub mod Slots
