use Rattle.std.proofs.Common.{rules, ◌≡◌, true, false, SFits, w32, sym, ap, ◌∙◌}
use Rattle.std.specs.Result.{is_ok}
use Rattle.std.proofs.lemmas.Int.{to_z-of_z}
use Rattle.tb_geom.specs.declared.rect.Rect.{Rect}
use Rattle.tb_geom.specs.Rects.{is_in_range, moved_rect}
use Rattle.text_mgr.proofs.PlaceParts.{none_at, placed_at, placed_box, placed_is}
use Rattle.text_mgr.proofs.judging.placing_at.Goals as goal

pub returns-in_err-placing : goal.returns-in_err-placing
returns-in_err-placing c = c.from_residual.ensures ∙ none_at c.args.framed c.args.place c.args.window (sym c.in_err-placing.ensures)

pub box_of-bounds-requires : goal.box_of-bounds-requires
box_of-bounds-requires c = placed_box c.args.framed c.args.place c.in_ok-placing.placing (placed_is c.args.framed c.args.place c.in_ok-placing.placing (sym c.in_ok-placing.ensures))

pub returns-then-is_ok : goal.returns-then-is_ok
returns-then-is_ok c =
    let h : SFits w32 c.args.window.h = search rules in
    let v : SFits w32 c.args.window.v = search rules in
    let in_range : is_ok c.offset.result ≡ is_in_range (moved_rect c.box_of-bounds.result c.args.window.h c.args.window.v) = simp to_z-of_z at c.offset.ensures.in_range in
    placed_at c.args.framed c.args.place c.args.window c.in_ok-placing.placing (placed_is c.args.framed c.args.place c.in_ok-placing.placing (sym c.in_ok-placing.ensures)) true
    (sym c.if-is_ok.true ∙ c.is_ok.ensures.value ∙ in_range ∙ ap (λ (r : Rect). is_in_range (moved_rect r c.args.window.h c.args.window.v)) c.box_of-bounds.ensures)

pub returns-else-is_ok : goal.returns-else-is_ok
returns-else-is_ok c =
    let h : SFits w32 c.args.window.h = search rules in
    let v : SFits w32 c.args.window.v = search rules in
    let in_range : is_ok c.offset.result ≡ is_in_range (moved_rect c.box_of-bounds.result c.args.window.h c.args.window.v) = simp to_z-of_z at c.offset.ensures.in_range in
    placed_at c.args.framed c.args.place c.args.window c.in_ok-placing.placing (placed_is c.args.framed c.args.place c.in_ok-placing.placing (sym c.in_ok-placing.ensures)) false
    (sym c.if-is_ok.false ∙ c.is_ok.ensures.value ∙ in_range ∙ ap (λ (r : Rect). is_in_range (moved_rect r c.args.window.h c.args.window.v)) c.box_of-bounds.ensures)
