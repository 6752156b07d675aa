pub mod Words
pub mod Shapes
pub mod Given
pub mod SampleLine
