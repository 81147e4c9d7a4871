-- What the contracts speak of: the edges of a row, the rows of a region, how far they are read, lines and layers.
pub mod Edges
pub mod Gaps
pub mod Cursor
pub mod Rows
pub mod RowsAt
pub mod Hull
pub mod Restored
pub mod Counts
pub mod Bits
pub mod Lines
pub mod Seen
pub mod Columns
pub mod Layers
pub mod Meets
pub mod Moves
pub mod Merges
pub mod Pairs
