use Rattle.std.proofs.Common.{◌∙◌, sym, refl, arith}
use Rattle.std.proofs.lemmas.Int.{ints}
use Rattle.tb_geom.proofs.RectLemmas.{sides_rise}
use Rattle.shape_region.proofs.MadeLemmas.{none_bounds}
use Rattle.shape_region.proofs.making.row_bounds.Goals as goal

pub returns-then-is_empty-clause-bounds : goal.returns-then-is_empty-clause-bounds
returns-then-is_empty-clause-bounds g c =
    none_bounds (g.R.Rows.pixels c.args.form.now) c.bounds-bounds.result _ (record { in_range = c.bounds-bounds.ensures.in_range; around = c.bounds-bounds.ensures.around }) (sym c.is_empty.ensures.sides ∙ c.if-is_empty.true) refl

pub returns-clause-order : goal.returns-clause-order
returns-clause-order g c =
    let rise = sides_rise c.bounds-bounds.result (sym c.is_empty.ensures.sides ∙ c.if-is_empty.false) in
    let down = rise.down in
    omega (arith, ints)
