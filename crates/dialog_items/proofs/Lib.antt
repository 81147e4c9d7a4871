-- Lemmas on items that are changed, on the last edit item, on texts that are filled, and on the sides of rectangles.
pub mod ItemLemmas
pub mod LookLemmas
pub mod FillLemmas
pub mod RectFacts
