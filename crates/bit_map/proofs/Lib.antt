-- Lemmas on the bits of a map.
pub mod BitsLemmas
pub mod CountLemmas
pub mod WordLemmas
pub mod PartLemmas
pub mod MoveLemmas
pub mod WideLemmas
pub mod LayLemmas
pub mod ImageLemmas
pub mod PatternLemmas
pub mod StripeLemmas
pub mod RunLemmas
