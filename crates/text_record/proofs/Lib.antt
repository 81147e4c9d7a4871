-- Lemmas.
pub mod PlacingLemmas
pub mod ByteLemmas
pub mod WidthLemmas
pub mod PassLemmas
pub mod PlaceLemmas
pub mod FoundLemmas
pub mod ShowLemmas
