-- Lemmas on the areas of windows.
pub mod AreaFacts
pub mod NotchFacts
pub mod RoundBoxes
pub mod RoundFacts
pub mod Hearing
pub mod LineFacts
