-- Lemmas on rows of pixels, on their columns and where these change, on the boxes of sets, and on bytes that are told.
pub mod RowLemmas
pub mod ColumnLemmas
pub mod ChangeLemmas
pub mod BoxLemmas
pub mod TurnedLemmas
pub mod ToldLemmas
