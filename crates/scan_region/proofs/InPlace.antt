-- A coordinate as a number of the machine, for the crates above.
pub use Rattle.region_rows.proofs.InPlace.{coordinate_fits}
