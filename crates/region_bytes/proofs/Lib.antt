-- Lemmas on the edges of a row and on rows of inversion points.
pub mod Edges
pub mod Rows
pub mod Tests
-- On the words of rows: how they are read, and that each column stands an even number of times.
pub mod Scanned
pub mod Found
pub mod Words
pub mod Flags
pub mod Finite
pub mod Data
pub mod PointLemmas
-- On the box and the data of bytes, and what both say.
pub mod Ranges
pub mod Parted
pub mod Short
pub mod Long
pub mod Judged
pub mod Said
pub mod Formed
-- On what is written, and that it says one set.
pub mod Written
pub mod Decoded
-- On points and the box that the bytes answer.
pub mod Pointed
pub mod Boxed
