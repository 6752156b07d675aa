pub mod Slots
pub mod Sweeps
