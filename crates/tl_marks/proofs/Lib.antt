pub mod Stated
mod Halves
mod Bases
mod Crossed
mod Told
mod Standing
mod Stepped
mod Examples
