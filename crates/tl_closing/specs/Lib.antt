pub mod Closing
pub mod Standing
pub mod Changed
pub mod Colours
pub mod Residues
