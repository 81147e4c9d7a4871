use Rattle.std.proofs.Common.{rules, ◌≡◌, ◌&&◌, is_ok, true, false, Err, SFits, w32, ap, ◌∙◌}
use Rattle.std.proofs.lemmas.Int.{to_z-of_z}
use Rattle.list_view.specs.Axes.{is_axis}
use Rattle.list_view.specs.Views.{view_rect}
use Rattle.tb_geom.specs.Rects.{is_in_range, moved_rect}
use Rattle.list_mgr.proofs.Judged.{no_view, view_lies}
use Rattle.list_mgr.specs.ListRefusals.{across_of, down_of, view_of}
use Rattle.list_mgr.proofs.judging.view_in.Goals as goal

pub returns-in_err-view-clause-in_range : goal.returns-in_err-view-clause-in_range
returns-in_err-view-clause-in_range c w place =
    let n = c.args.new.now in
    let h : SFits w32 n.place.h = search rules in
    let v : SFits w32 n.place.v = search rules in
    let width : SFits w32 n.size.width = search rules in
    let height : SFits w32 n.size.height = search rules in
    let cell_width : SFits w32 n.cell_size.width = search rules in
    let cell_height : SFits w32 n.cell_size.height = search rules in
    let is : c.from_residual.result ≡ Err c.in_err-view.field-0.0 = search rules in
    let axes : false ≡ (is_axis (across_of n) && is_axis (down_of n)) = simp to_z-of_z at c.in_err-view.ensures.in_range in
    ap is_ok is ∙ no_view n w axes

pub returns-in_err-_there-clause-in_range : goal.returns-in_err-_there-clause-in_range
returns-in_err-_there-clause-in_range c w place =
    let n = c.args.new.now in
    let h : SFits w32 n.place.h = search rules in
    let v : SFits w32 n.place.v = search rules in
    let width : SFits w32 n.size.width = search rules in
    let height : SFits w32 n.size.height = search rules in
    let cell_width : SFits w32 n.cell_size.width = search rules in
    let cell_height : SFits w32 n.cell_size.height = search rules in
    let there_h : SFits w32 c.args.window.h = search rules in
    let there_v : SFits w32 c.args.window.v = search rules in
    let is : c.from_residual-in_err-_there.result ≡ Err c.in_err-_there.field-0.0 = search rules in
    let axes : true ≡ (is_axis (across_of n) && is_axis (down_of n)) = simp to_z-of_z at c.in_ok-view.ensures.in_range in
    let made : c.in_ok-view.view ≡ view_of n = simp to_z-of_z at c.in_ok-view.ensures.made in
    let off : false ≡ is_in_range (moved_rect c.rect.result c.args.window.h c.args.window.v) = simp to_z-of_z at c.in_err-_there.ensures.in_range in
    ap is_ok is ∙ view_lies n w c.args.window false place axes (off ∙ ap (λ r. is_in_range (moved_rect r c.args.window.h c.args.window.v)) (c.rect.ensures.sides ∙ ap view_rect made))

pub returns-clause-made : goal.returns-clause-made
returns-clause-made c =
    let n = c.args.new.now in
    let h : SFits w32 n.place.h = search rules in
    let v : SFits w32 n.place.v = search rules in
    let width : SFits w32 n.size.width = search rules in
    let height : SFits w32 n.size.height = search rules in
    let cell_width : SFits w32 n.cell_size.width = search rules in
    let cell_height : SFits w32 n.cell_size.height = search rules in
    simp to_z-of_z at c.in_ok-view.ensures.made

pub returns-clause-in_range : goal.returns-clause-in_range
returns-clause-in_range c w place =
    let n = c.args.new.now in
    let h : SFits w32 n.place.h = search rules in
    let v : SFits w32 n.place.v = search rules in
    let width : SFits w32 n.size.width = search rules in
    let height : SFits w32 n.size.height = search rules in
    let cell_width : SFits w32 n.cell_size.width = search rules in
    let cell_height : SFits w32 n.cell_size.height = search rules in
    let there_h : SFits w32 c.args.window.h = search rules in
    let there_v : SFits w32 c.args.window.v = search rules in
    let axes : true ≡ (is_axis (across_of n) && is_axis (down_of n)) = simp to_z-of_z at c.in_ok-view.ensures.in_range in
    let made : c.in_ok-view.view ≡ view_of n = simp to_z-of_z at c.in_ok-view.ensures.made in
    let on : true ≡ is_in_range (moved_rect c.rect.result c.args.window.h c.args.window.v) = simp to_z-of_z at c.in_ok-_there.ensures.in_range in
    view_lies n w c.args.window true place axes (on ∙ ap (λ r. is_in_range (moved_rect r c.args.window.h c.args.window.v)) (c.rect.ensures.sides ∙ ap view_rect made))
