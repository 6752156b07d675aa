pub mod Around
pub mod Put
pub mod Sweeps
pub mod LeastPower
pub mod Gathering
pub mod Samples
mod Examples
