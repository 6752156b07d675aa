pub mod Input
pub mod RegionText
pub mod Marks
pub mod Drawing
pub mod Texts
pub mod ObstructionText
