pub mod Entries
pub mod Noted
pub mod Notes
pub mod Outcomes
