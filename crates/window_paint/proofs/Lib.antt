-- Lemmas on drawing: cuts, pictures, the color white, all of a window's content, the layers of one kind, frames, and pixels that move.
pub mod CutLemmas
pub mod PictureLemmas
pub mod WhiteLemmas
pub mod ContentLemmas
pub mod KindLayers
pub mod FrameLemmas
pub mod MoveLemmas
pub mod WritesLemmas
