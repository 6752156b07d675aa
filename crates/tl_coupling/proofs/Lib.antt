pub mod FewWords
pub mod ReadWords
