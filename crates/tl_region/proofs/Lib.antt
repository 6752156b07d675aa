mod RowLemmas
mod TextLemmas
