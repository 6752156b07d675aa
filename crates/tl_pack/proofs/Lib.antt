pub mod Stated
mod Left
mod Filled
mod Sums
mod OfLattice
mod Packed
mod Held
