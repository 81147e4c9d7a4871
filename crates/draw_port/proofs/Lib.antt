-- Lemmas on canvases.
pub mod CanvasLemmas
pub mod PlacedLemmas
pub mod PictureLemmas
pub mod FrameLemmas
pub mod OverLemmas
pub mod SeenLemmas
pub mod TextLemmas
pub mod ClippedLemmas
pub mod StripLemmas
