-- Lemmas.
pub mod EditLemmas
