pub mod Counts
pub mod States
pub mod Reads
pub mod Writes
pub mod Memory
