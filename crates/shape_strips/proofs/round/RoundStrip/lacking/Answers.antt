use Rattle.std.proofs.Common.{◌≡◌, pos, ◌+ℤ◌, ◌∙◌, arith, SFits, w32, rules}
use Rattle.std.proofs.lemmas.Int.{ints, to_z-of_z}
use Rattle.tb_geom.proofs.Steps.{fits_next}
use Rattle.shape_strips.specs.Ovals.{away}
use Rattle.shape_strips.specs.Rounds.{fitted, down}
use Rattle.shape_strips.proofs.RangeLemmas.{coordinate_from, sides_in}
use Rattle.shape_strips.proofs.RoundLemmas.{edge_of}
use Rattle.shape_strips.proofs.round.RoundStrip.lacking.Goals as goal

pub count-requires-clause-low : goal.count-requires-clause-low
count-requires-clause-low c =
    let s = sides_in c.args.self.now.rect c.args.self.now.in_range in
    let fits : SFits w32 c.args.self.now.rect.top = search rules in
    simp to_z-of_z (coordinate_from c.args.self.now.rect.top s.top_low s.top_high)

pub count-requires-clause-high : goal.count-requires-clause-high
count-requires-clause-high c =
    let s = sides_in c.args.self.now.rect c.args.self.now.in_range in
    let fits = c.ranges.v in
    let top = c.requires.top in
    let bottom = c.requires.bottom in
    simp to_z-of_z (coordinate_from c.args.v (omega (arith, ints)) (omega (arith, ints)))

pub count-requires-2-clause-low : goal.count-requires-2-clause-low
count-requires-2-clause-low c =
    let s = sides_in c.args.self.now.rect c.args.self.now.in_range in
    let fits = c.ranges.v in
    let fits_bottom : SFits w32 c.args.self.now.rect.bottom = search rules in
    let top = c.requires.top in
    let bottom = c.requires.bottom in
    let fits_1 : SFits w32 (c.args.v +ℤ pos 1) = fits_next c.args.v c.args.self.now.rect.bottom fits fits_bottom bottom in
    simp to_z-of_z (coordinate_from (c.args.v +ℤ pos 1) (omega (arith, ints)) (omega (arith, ints)))

pub count-requires-2-clause-high : goal.count-requires-2-clause-high
count-requires-2-clause-high c =
    let s = sides_in c.args.self.now.rect c.args.self.now.in_range in
    let fits : SFits w32 c.args.self.now.rect.bottom = search rules in
    simp to_z-of_z (coordinate_from c.args.self.now.rect.bottom s.bottom_low s.bottom_high)

pub returns-clause-edge : goal.returns-clause-edge
returns-clause-edge c =
    let r = c.args.self.now.rect in
    let fits = c.ranges.v in
    let fits_top : SFits w32 c.args.self.now.rect.top = search rules in
    let fits_bottom : SFits w32 c.args.self.now.rect.bottom = search rules in
    let bottom = c.requires.bottom in
    let fits_1 : SFits w32 (c.args.v +ℤ pos 1) = fits_next c.args.v c.args.self.now.rect.bottom fits fits_bottom bottom in
    let before = simp to_z-of_z at c.count.ensures.value in
    let after = simp to_z-of_z at c.count-2.ensures.value in
    let width = c.oval-oval.ensures.width in
    let height = c.oval-oval.ensures.height in
    let y_is : c.away-y.result ≡ down c.args.self.now.rect (fitted c.args.self.now.rect c.args.self.now.corner) c.args.v =
    c.away-y.ensures ∙ (λ j. away (height j) (before j) (after j)) in
    edge_of _ _ _ _ _ _ c.lacking.result width height y_is c.lacking.ensures.edge
