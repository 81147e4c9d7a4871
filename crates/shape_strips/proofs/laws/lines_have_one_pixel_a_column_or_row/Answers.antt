use Rattle.shape_strips.proofs.LineLaws.{flat_one, steep_one}
use Rattle.shape_strips.proofs.laws.lines_have_one_pixel_a_column_or_row.Goals as goal

pub returns-clause-flat : goal.returns-clause-flat
returns-clause-flat c = flat_one

pub returns-clause-steep : goal.returns-clause-steep
returns-clause-steep c = steep_one
