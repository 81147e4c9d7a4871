-- What the contracts speak of: the outline that a call shows, what it answers and what is open then, why it refuses, and what
-- the map in front shows.
pub mod Outlining
pub mod OutlineRefusals
pub mod OutlineSteps
pub mod ShownOutlines
