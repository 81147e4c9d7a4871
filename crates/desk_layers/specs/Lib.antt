-- What the law of changes speaks of: the desk and its layers, the owner of a pixel, painting from nothing, and what a change
-- does to pixels.
pub mod Desk
pub mod Owner
pub mod Scratch
pub mod Change
