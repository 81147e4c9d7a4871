-- Lemmas on settings and on parts.
pub mod SettingLemmas
pub mod PartLemmas
