pub mod Words
pub mod Handed
pub mod Stretches
pub mod Edges
pub mod Bands
