-- Lemmas on drawings.
pub mod DrawsLemmas
pub mod OnceLemmas
pub mod WrittenLemmas
pub mod SpansLemmas
pub mod WalkLemmas
pub mod SourceLemmas
pub mod InkLemmas
pub mod ShiftLemmas
