-- What the contracts speak of: the pixels of an area, which of them are right, a desk of which one window may be in an
-- update, what its draws leave, why a call about updates refuses, what it does, one step, which window is to be updated
-- first, and updates that were served.
pub mod Sets
pub mod Rightness
pub mod Choosing
pub mod WholeUpdates
pub mod UpdateRefusals
pub mod UpdateSteps
pub mod Marks
pub mod Waiting
pub mod Served
pub mod Boxed
