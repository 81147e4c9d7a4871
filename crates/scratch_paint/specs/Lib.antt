-- What the contracts speak of: windows with their layers painted over each other, a desk and a whole screen painted from
-- nothing, and how far a screen is from that.
pub mod Paints
pub mod Screens
pub mod Differences
