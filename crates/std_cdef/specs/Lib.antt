-- The tables of the standard controls, and the definitions that they make.
pub mod Axes
pub mod Thumbs
pub mod Looks
pub mod Hits
pub mod Icons
pub mod Controls
pub mod Told
