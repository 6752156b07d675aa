pub mod Strips
mod Stepped
