pub mod OfClasses
pub mod Masked
pub mod Packs
pub mod OneTiling
pub mod PackedTiling
pub mod Ends
pub mod Inner
