pub mod Stated
mod Places
mod Bits
mod Slots
mod Bounds
mod Swept
mod Examples
