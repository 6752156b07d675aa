pub mod Bands
pub mod Hands
pub mod Cuts
