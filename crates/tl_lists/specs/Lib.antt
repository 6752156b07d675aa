pub mod Lists
pub mod Powers
