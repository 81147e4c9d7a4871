-- Lemmas on slots, on definitions and what they are told, and on lines.
pub mod StockLemmas
pub mod SeenLemmas
pub mod Hearing
pub mod KeptLemmas
pub mod FurtherHearing
pub mod KeptControlLemmas
pub mod LineLemmas
