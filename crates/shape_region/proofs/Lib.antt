-- Lemmas on the rows of shapes: their runs, how far they are made, and how they are written; and on polygons.
pub mod RunLemmas
pub mod MadeLemmas
pub mod TurnLemmas
pub mod WrittenLemmas
pub mod PolygonLemmas
pub mod PolygonRowLemmas
pub mod CrossLemmas
