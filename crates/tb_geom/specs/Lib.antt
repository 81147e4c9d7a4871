-- What the contracts speak of: points and sets of them, rectangles, finite sets of pixels, refusals, lent bytes.
pub mod Points
pub mod Rects
pub mod Refusals
pub mod Pixels
pub mod LentBytes
