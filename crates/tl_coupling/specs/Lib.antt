pub mod Carried
pub mod SweptNumbers
pub mod Laws
