pub mod Stated
pub mod Bits
pub mod Places
pub mod Lanes
pub mod Swept
