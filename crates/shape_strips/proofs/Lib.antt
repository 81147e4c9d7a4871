-- Lemmas on ovals, on rectangles in range, on runs, on round shapes, on their insides, and what they give together; on
-- products, on columns by their multiples, on bands, and on lines.
pub mod OvalLemmas
pub mod RangeLemmas
pub mod RunLemmas
pub mod RoundLemmas
pub mod InsideLemmas
pub mod LawLemmas
pub mod Products
pub mod ColumnLemmas
pub mod BandLemmas
pub mod LineLemmas
pub mod JoinLemmas
pub mod PenLemmas
pub mod LineNumbers
pub mod LineLaws
