-- Lemmas.
pub mod OverLemmas
pub mod PartLemmas
pub mod PaintLemmas
pub mod LawLemmas
pub mod AboveLemmas
