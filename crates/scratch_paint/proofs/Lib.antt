-- How a desk is painted from nothing, and how a screen is compared with that.
pub mod CutLemmas
pub mod PaintLemmas
pub mod DifferenceLemmas
pub mod FrontLemmas
