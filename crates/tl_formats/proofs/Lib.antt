pub mod Lines
pub mod RegionTexts
pub mod Drawings
pub mod Cases
