use Rattle.std.proofs.Common.{sym, ◌∙◌, rules}
use Rattle.std.proofs.lemmas.Bool.{false≢true}
use Rattle.std.proofs.lemmas.Int.{to_z-of_z}
use Rattle.tb_geom.specs.Pixels.{holds}
use Rattle.region_inset.specs.Insets.{inset}
use Rattle.region_inset.proofs.ReachLemmas.{word_distance}
use Rattle.region_inset.proofs.RangeLemmas.{across_of}
use Rattle.region_inset.proofs.range.can_inset.Goals as goal

pub lies_across-requires-clause-across : goal.lies_across-requires-clause-across
lies_across-requires-clause-across c = let fits = c.ranges.dh in simp to_z-of_z (word_distance c.args.dh c.requires.across)

pub lies_across-requires-clause-down : goal.lies_across-requires-clause-down
lies_across-requires-clause-down c = let fits = c.ranges.dv in simp to_z-of_z (word_distance c.args.dv c.requires.down)

pub returns-then-not-lies_across : goal.returns-then-not-lies_across
returns-then-not-lies_across c =
    let fits_dh = c.ranges.dh in
    let fits_dv = c.ranges.dv in
    let across = simp to_z-of_z at c.lies_across.ensures in (
      λ t. absurd (search rules),
      λ lies. absurd (false≢true (sym c.if-not-lies_across.true ∙ across.1 (across_of (inset (holds c.args.region.now) c.args.dh c.args.dv) lies))),
    )

pub lies_down-requires-clause-across : goal.lies_down-requires-clause-across
lies_down-requires-clause-across c = let fits = c.ranges.dh in simp to_z-of_z (word_distance c.args.dh c.requires.across)

pub lies_down-requires-clause-down : goal.lies_down-requires-clause-down
lies_down-requires-clause-down c = let fits = c.ranges.dv in simp to_z-of_z (word_distance c.args.dv c.requires.down)

pub lies_down-requires-clause-columns : goal.lies_down-requires-clause-columns
lies_down-requires-clause-columns c =
    let fits_dh = c.ranges.dh in
    let fits_dv = c.ranges.dv in
    c.lies_across.ensures.0 c.if-not-lies_across.false

pub returns : goal.returns
returns c =
    let fits_dh = c.ranges.dh in
    let fits_dv = c.ranges.dv in
    simp to_z-of_z at c.lies_down.ensures
