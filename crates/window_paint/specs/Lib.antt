-- What the contracts speak of: what of a picture layers hide, the kinds of layers, what a window's content shows, what is
-- white, how frames are drawn, and pixels that move.
pub mod Hidden
pub mod Kinds
pub mod Shown
pub mod White
pub mod Moves
pub mod Frames
pub mod Writes
