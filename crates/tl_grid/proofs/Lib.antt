pub mod GridLemmas
pub mod FloodLemmas
pub mod OnePart
pub mod InnerLemmas
pub mod PatternLemmas
pub mod SurveyLemmas
pub mod WalkLemmas
