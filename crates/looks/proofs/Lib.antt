-- Lemmas on steps, on looks that differ, and on areas.
pub mod PaintLemmas
pub mod CrossLemmas
pub mod DamageLemmas
pub mod RoundedLemmas
pub mod SameLemmas
pub mod AreaLemmas
