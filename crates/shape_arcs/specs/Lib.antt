-- What the contracts speak of: directions by degrees, the pixels that are seen from a degree on, wedges and arcs, and
-- what is computed on the way.
pub mod Directions
pub mod Rays
pub mod Wedges
pub mod Sights
pub mod Halves
pub mod Circles
