-- What crates above may cite.
pub use Rattle.tl_outcomes.proofs.EntryLemmas.{some-entry, some-drawn, some-ranked, some-of, own-bottom, own-top, drawing-of, rank-told, late-entry, noted-entry}
