-- What the contracts speak of: runs and spans, the parts of a walk, cuts, and regions that are moved.
pub mod Kept
pub mod Walks
pub mod Parts
pub mod Descents
pub mod SpanRows
pub mod Scan
pub mod Cuts
pub mod Turned
pub mod Moves
