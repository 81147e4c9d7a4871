use Rattle.std.proofs.Common.{rules, ◌≡◌, true, ◌&&◌, SFits, w32, ◌∙◌}
use Rattle.std.proofs.lemmas.Int.{to_z-of_z}
use Rattle.tb_geom.specs.Rects.{is_in_range, moved_rect}
use Rattle.control_mgr.proofs.laying.lies_in_range.Goals as goal

pub returns-in-Ok : goal.returns-in-Ok
returns-in-Ok c =
    let across : SFits w32 c.args.place.h = search rules in
    let down : SFits w32 c.args.place.v = search rules in
    let window_across : SFits w32 c.args.window.h = search rules in
    let window_down : SFits w32 c.args.window.v = search rules in
    let first : true ≡ is_in_range (moved_rect c.args.bounds c.args.place.h c.args.place.v) = simp to_z-of_z at c.in-Ok.ensures.in_range in
    let sides = simp to_z-of_z at c.in-Ok.ensures.sides in
    let second = simp to_z-of_z at c.offset-in-Ok.ensures.in_range in
    c.is_ok.ensures.value ∙ second ∙ (λ t. first t && is_in_range (moved_rect (sides t) c.args.window.h c.args.window.v))
