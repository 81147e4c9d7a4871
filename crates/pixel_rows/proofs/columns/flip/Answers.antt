use Rattle.region_rows.proofs.BitPlaces.{flipped}
use Rattle.pixel_rows.proofs.columns.flip.Goals as goal

pub returns-clause-bits : goal.returns-clause-bits
returns-clause-bits c = λ k. flipped c.args.words.now c.args.place k c.requires
