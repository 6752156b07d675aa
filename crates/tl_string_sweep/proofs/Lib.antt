pub mod Inner
pub mod Stepped
pub mod OneClass
pub mod AllClasses
pub mod Written
