pub mod Graphs
pub mod Spreading
pub mod Searching
pub mod Tables
