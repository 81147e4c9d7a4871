-- A region moved by a distance, and whether it stays in range, as the rows of regions have it.
pub use Rattle.region_rows.specs.Moves.{is_pixel_in_range, StaysInRange, LeavesRange}
