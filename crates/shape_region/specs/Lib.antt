-- What the contracts speak of: the rows of shapes and how they differ, and polygons by their points.
pub mod Rows
pub mod Polygons
