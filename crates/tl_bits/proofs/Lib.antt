pub mod Keys
pub mod Blocks
pub mod Rings
mod BitExamples
