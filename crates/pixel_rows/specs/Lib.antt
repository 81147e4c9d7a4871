-- What the contracts speak of: where sets and runs lie, the columns of any row and where a row differs from the one above,
-- sets that are combined and moved, the bytes of regions that are told, and how far they are written.
pub mod Bounds
pub mod Columns
pub mod Combined
pub mod Told
pub mod Written
