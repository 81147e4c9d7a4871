-- What the contracts speak of: ovals by half pixels, round shapes, their insides, their frames, mirrored pixels, places and
-- numbers near 0, the bands of edges, and lines.
pub mod Ovals
pub mod Runs
pub mod Rounds
pub mod Frames
pub mod Mirrors
pub mod Places
pub mod Bands
pub mod Lines
