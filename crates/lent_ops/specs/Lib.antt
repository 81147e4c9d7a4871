-- What operations are that calls carry, and shapes that they paint or frame.
pub mod OpRefs
pub mod Points
pub mod Forms
pub mod Judged
pub mod Asked
