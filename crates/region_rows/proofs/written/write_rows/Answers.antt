use Rattle.std.proofs.Common.{sym, ap, ◌∙◌, subst, ◌++◌, ◌∷◌, [], take}
use Rattle.std.proofs.lemmas.List.{take_more, take_all}
use Rattle.region_bytes.specs.Points.{points_of, IsInRange}
use Rattle.region_bytes.specs.Writing.{AreWritten}
use Rattle.region_rows.proofs.written.write_rows.Goals as goal

pub loop-row-init : goal.loop-row-init
unfolding points_of
loop-row-init c = c.new-out.ensures

pub write_row-requires : goal.write_row-requires
write_row-requires c = subst IsInRange (sym c.row-item.is) (c.requires.in_range c.loop-row.row-index c.row-item.result c.loop-row-test.true)

pub loop-row-preserved : goal.loop-row-preserved
loop-row-preserved c =
    subst (AreWritten c.write_row.new.out) (sym (take_more c.args.rows.now c.loop-row.row-index c.row-item.result c.loop-row-test.true ∙ ap (λ r. take c.loop-row.row-index c.args.rows.now ++ r ∷ []) (sym c.row-item.is))) (c.write_row.ensures _ c.loop-row.invariant)

pub returns : goal.returns
returns c =
    c.word.ensures _ _ (subst (AreWritten c.loop-row.out) (take_all c.loop-row.row-index c.args.rows.now c.loop-row-test.false) c.loop-row.invariant)
