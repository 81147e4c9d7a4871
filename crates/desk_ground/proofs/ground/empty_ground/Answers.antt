use Rattle.std.proofs.Common.{◌≡◌, true, sym, ◌∙◌, rules, SFits, w32}
use Rattle.std.proofs.lemmas.Int.{to_z-of_z}
use Rattle.desk_ground.proofs.GroundLemmas.{is_ground, has_bar}
use Rattle.desk_ground.proofs.ground.empty_ground.Goals as goal

pub returns-clause-painted : goal.returns-clause-painted
returns-clause-painted c =
    let fits_w : SFits w32 c.args.width = search rules in
    let fits_h : SFits w32 c.args.height = search rules in
    let fits_b : SFits w32 c.args.bar = search rules in
    let sides = simp to_z-of_z at c.in_ok-screen.ensures.sides in
    let pixels = simp to_z-of_z at c.in_ok-gray.ensures.pixels in
    let painted = simp to_z-of_z at c.paint_empty.ensures in
    is_ground c.args.width c.args.height c.args.bar c.in_ok-screen.screen _ _ c.in_ok-desktop.desktop c.in_ok-desktop.ensures sides c.in_ok-screen.ensures.white painted pixels

pub returns-clause-in_range : goal.returns-clause-in_range
returns-clause-in_range c =
    let fits_w = c.ranges.width in
    let fits_h = c.ranges.height in
    let fits_b = c.ranges.bar in
    let screen : c.is_screen.result ≡ true = search rules in
    sym (simp to_z-of_z at c.is_screen.ensures) ∙ screen

pub paint_empty-requires : goal.paint_empty-requires
paint_empty-requires c =
    let fits_w = c.ranges.width in
    let fits_h = c.ranges.height in
    let fits_b = c.ranges.bar in
    let screen : c.is_screen.result ≡ true = search rules in
    simp to_z-of_z (has_bar c.args.width c.args.height c.args.bar (sym (simp to_z-of_z at c.is_screen.ensures) ∙ screen))
