-- Lemmas on FONT records.
pub mod RecordLemmas
pub mod LongestRecord
pub mod TextLemmas
pub mod PartLemmas
pub mod BuiltInLemmas
pub mod WordsLemmas
pub mod TileLemmas
