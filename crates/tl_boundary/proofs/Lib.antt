mod Prefixes
mod SideLemmas
pub mod OneCircuit
