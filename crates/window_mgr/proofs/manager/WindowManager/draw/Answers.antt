use Rattle.std.proofs.Common.{length, get_or, sym, ap, ◌∙◌, arith, rules}
use Rattle.tb_geom.specs.Rects.{in_plane}
use Rattle.window_list.specs.Lists.{with_operation}
use Rattle.window_mgr.proofs.DrawLemmas as drawing
use Rattle.window_mgr.proofs.DrawSteps as steps
use Rattle.window_mgr.proofs.manager.WindowManager.draw.Goals as goal

pub push_operation-requires : goal.push_operation-requires
push_operation-requires g c = drawing.window_low _ c.args.self.now c.requires c.in_ok-at.at c.in_ok-at.ensures.window c.in_ok-at.ensures.there

pub index-requires : goal.index-requires
index-requires g c =
    let low = drawing.area_low _ c.args.self.now c.requires c.in_ok-at.at c.in_ok-at.ensures.window c.in_ok-at.ensures.there in
    let long = c.args.self.now.areas.ok.0 in
    omega arith

pub at-requires : goal.at-requires
at-requires g c =
    let pushed = drawing.when_ok c.push_operation.result (sym c.is_err.ensures.value ∙ c.if-is_err.false) c.push_operation.ensures.added in
    let long = ap (λ l. length l.records.items) pushed in
    let low = drawing.still_low _ c.args.self.now c.requires c.in_ok-at.at c.in_ok-at.ensures.window c.in_ok-at.ensures.there (with_operation c.in-Ok.operation) in
    omega arith

pub paint_last_operation-requires-clause-placed : goal.paint_last_operation-requires-clause-placed
paint_last_operation-requires-clause-placed g c =
    let pushed = drawing.when_ok c.push_operation.result (sym c.is_err.ensures.value ∙ c.if-is_err.false) c.push_operation.ensures.added in
    let changed = drawing.changed_there _ c.args.self.now c.requires c.in_ok-at.at c.in_ok-at.ensures.window c.in_ok-at.ensures.there (with_operation c.in-Ok.operation) c.at.result.now (c.at.ensures ∙ ap (λ l. get_or l.records.items c.in_ok-at.at c.at.result.now) pushed) in
    ap (λ w. in_plane w.place) changed ∙ (drawing.window_settled _ c.args.self.now c.requires c.in_ok-at.at c.in_ok-at.ensures.window c.in_ok-at.ensures.there).placed

pub paint_last_operation-requires-clause-origin : goal.paint_last_operation-requires-clause-origin
paint_last_operation-requires-clause-origin g c =
    let pushed = drawing.when_ok c.push_operation.result (sym c.is_err.ensures.value ∙ c.if-is_err.false) c.push_operation.ensures.added in
    let changed = drawing.changed_there _ c.args.self.now c.requires c.in_ok-at.at c.in_ok-at.ensures.window c.in_ok-at.ensures.there (with_operation c.in-Ok.operation) c.at.result.now (c.at.ensures ∙ ap (λ l. get_or l.records.items c.in_ok-at.at c.at.result.now) pushed) in
    ap (λ w. in_plane w.origin) changed ∙ (drawing.window_settled _ c.args.self.now c.requires c.in_ok-at.at c.in_ok-at.ensures.window c.in_ok-at.ensures.there).origin

pub returns-clause-step : goal.returns-clause-step
returns-clause-step g c =
    let pushed = drawing.when_ok c.push_operation.result (sym c.is_err.ensures.value ∙ c.if-is_err.false) c.push_operation.ensures.added in
    steps.draws _ c.args.self.now _ c.args.drawing.now c.in_ok-at.at c.in_ok-at.ensures
    (drawing.is_drawn_at _ c.args.self.now c.requires c.in_ok-at.at c.in_ok-at.ensures.window c.in_ok-at.ensures.there
    c.args.drawing.now c.in-Ok.operation c.at.result.now c.index.result.now c.paint_last_operation.new.map
    (c.at.ensures ∙ ap (λ l. get_or l.records.items c.in_ok-at.at c.at.result.now) pushed) c.index.ensures c.in-Ok.ensures.1 c.paint_last_operation.ensures.drawn
    _ (ap (λ l. record c.args.self.now { windows = l; screen = c.paint_last_operation.new.map }) pushed))

pub returns-in_default-clause-step : goal.returns-in_default-clause-step
returns-in_default-clause-step g c = steps.no_memory _ c.args.self.now _ c.args.drawing.now c.in_ok-at.at c.in_ok-at.ensures (search rules)

pub returns-then-is_err-clause-step : goal.returns-then-is_err-clause-step
returns-then-is_err-clause-step g c = steps.no_memory _ c.args.self.now _ c.args.drawing.now c.in_ok-at.at c.in_ok-at.ensures (search rules)
