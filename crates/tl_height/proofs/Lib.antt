pub mod PresentLemmas
pub mod FallLemmas
pub mod InnerSteps
pub mod Rising
mod OneHeight
pub mod StandingLemmas
pub mod LetterLemmas
pub mod RowLemmas
mod FillLemmas
mod FilledNumbers
pub mod Examples
pub mod HeightsBy
mod LozengeExamples
