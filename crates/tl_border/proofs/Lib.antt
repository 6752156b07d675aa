pub mod Bits
pub mod Queued
pub mod Moves
pub mod Calls
pub mod RuleExamples
