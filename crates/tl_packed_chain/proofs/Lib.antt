pub mod Known
pub mod Left
