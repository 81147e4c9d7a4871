-- What operations make of a pixel, and what drawing on a canvas leaves.
pub mod Ops
pub mod Origins
pub mod Places
pub mod Canvases
pub mod Texts
pub mod Frames
