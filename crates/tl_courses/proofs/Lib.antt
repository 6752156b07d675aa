mod Counted
mod Held
mod CoinBits
mod Rows
pub mod Stated
