pub mod EntryLemmas
mod ListLemmas
pub mod Stated
mod Examples
