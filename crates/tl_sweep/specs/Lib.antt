pub mod Sweeps
pub mod Blocks
pub mod Places
