-- Lemmas on what lies near a number and how far is reached, on insets and whether they lie in range, on rows that are
-- made, and on laws.
pub mod NearLemmas
pub mod ReachLemmas
pub mod InsetLemmas
pub mod RangeLemmas
pub mod MadeLemmas
pub mod LawLemmas
