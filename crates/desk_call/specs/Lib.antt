-- What the contracts speak of: the codes of the parts of the screen, which calls may come while something is open, what
-- kind of call it is, what is kept of an outline, and what a step is.
pub mod Parts
pub mod Lent
pub mod Gates
pub mod Natures
pub mod Outlines
pub mod Steps
