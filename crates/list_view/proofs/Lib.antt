-- Lemmas on views; then on lists as they are drawn: cell by cell, and what a change of the selection turns.
pub mod AxisLemmas
pub mod ViewLemmas
pub mod LineLemmas
pub mod LawLemmas
pub mod ReachLemmas
pub mod WalkLemmas
pub mod TurnLemmas
