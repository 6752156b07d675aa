pub mod Meaning
pub mod Ends
pub mod Search
mod ChainExamples
