-- Lemmas on areas and marks, on the pixels that are right, on the windows that wait, on the steps of updates, and the laws: they keep a
-- right state right, and what was served has nothing to be redrawn.
pub mod AreaLemmas
pub mod RightLemmas
pub mod MarkLemmas
pub mod ChoiceLemmas
pub mod Admitted
pub mod Sides
pub mod OpenLemmas
pub mod ServeLemmas
pub mod Judging
pub mod StepLemmas
pub mod UpdateLaws
pub mod ServedLaws
pub mod AnyOrder
pub mod WaitLemmas
