use Rattle.std.proofs.Common.{ap, ◌∙◌, rules, SFits, w32}
use Rattle.std.proofs.lemmas.Int.{to_z-of_z, to_z_pos}
use Rattle.shape_arcs.specs.Rays.{is_from}
use Rattle.shape_arcs.specs.Sights.{from_at}
use Rattle.shape_arcs.proofs.RayLemmas.{column_of}
use Rattle.shape_arcs.proofs.ray.from_at.Goals as goal

pub overflow_add-h : goal.overflow_add-h
overflow_add-h c =
    let is = column_of c.args.rect c.args.v c.args.columns c.requires.in_range c.requires.top c.requires.bottom c.requires.within in
    let fits_left : SFits w32 c.args.rect.left = search rules in
    rw (to_z_pos w32 c.args.columns is.few) (simp to_z-of_z is.fits)

pub seen-requires-clause-pixel_in : goal.seen-requires-clause-pixel_in
seen-requires-clause-pixel_in c =
    let is = column_of c.args.rect c.args.v c.args.columns c.requires.in_range c.requires.top c.requires.bottom c.requires.within in
    let fits_left : SFits w32 c.args.rect.left = search rules in
    let fits_v = c.ranges.v in
    let fits = is.fits in
    rw (to_z_pos w32 c.args.columns is.few) (simp to_z-of_z is.placed)

pub returns : goal.returns
unfolding from_at
returns c =
    let is = column_of c.args.rect c.args.v c.args.columns c.requires.in_range c.requires.top c.requires.bottom c.requires.within in
    let fits_left : SFits w32 c.args.rect.left = search rules in
    let fits_v = c.ranges.v in
    let fits = is.fits in
    let told = rw (to_z_pos w32 c.args.columns is.few) at c.seen.ensures in
    let place = simp to_z-of_z at told in
    c.is_from.ensures ∙ ap (is_from c.args.direction) place
