pub mod Bits
pub mod Sources
pub mod Ring
pub mod WordStream
