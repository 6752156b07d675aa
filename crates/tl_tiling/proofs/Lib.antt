mod LineLemmas
mod ReadLemmas
mod MatchLemmas
mod DrawLemmas
mod PrintLemmas
mod TilingLemmas
mod PrintedLemmas
