-- What the contracts speak of: rows of edges, inversion points, their words, the bytes of a set of pixels, and how far they are written.
pub mod Edges
pub mod Points
pub mod Words
pub mod Bytes
pub mod Scan
pub mod Text
pub mod Forms
pub mod Writing
