-- Lemmas.
pub mod EndLemmas
pub mod LineLemmas
pub mod FollowLemmas
pub mod StayLemmas
