pub mod AlongPaths
pub mod Gaps
mod Words
mod Paths
