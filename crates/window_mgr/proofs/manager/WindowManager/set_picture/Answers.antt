use Rattle.std.proofs.Common.{refl, ap, ◌∙◌, arith, rules}
use Rattle.std.proofs.lemmas.Result.{err_from_is_err_and}
use Rattle.window_list.specs.Lists.{edit_at, with_picture}
use Rattle.window_mgr.proofs.PictureSteps as steps
use Rattle.window_mgr.proofs.manager.WindowManager.set_picture.Goals as goal

pub index-area-requires : goal.index-area-requires
index-area-requires g c =
    let low = steps.area_low _ c.args.self.now c.requires c.in-Some.at _ c.in-Some.ensures in
    let long = c.args.self.now.areas.ok.0 in
    omega arith

pub put_update-requires : goal.put_update-requires
put_update-requires g c = steps.area_low _ c.args.self.now c.requires c.in-Some.at _ c.in-Some.ensures

pub returns-clause-step : goal.returns-clause-step
returns-clause-step g c =
    steps.sets _ c.args.self.now c.args.new.now c.in-Some.at c.in-Some.ensures _ (search rules)
    (
    rw c.put_update.ensures.state (steps.is_picture_at _ c.args.self.now c.requires c.in-Some.at _ c.in-Some.ensures c.args.new.now c.index-area.result.now c.put_update.ensures.area c.at.result.now c.covered.result.now c.in_ok-shown.shown c.in_ok-update.update c.index-area.ensures c.put_update.ensures.there c.at.ensures c.covered.ensures c.in_ok-shown.ensures c.in_ok-update.ensures _
    (c.set_picture.ensures ∙ ap (λ picture. record c.args.self.now.windows { records = edit_at (with_picture picture c.args.new.now.origin) c.in-Some.at c.args.self.now.windows.records }) c.in_ok-picture.ensures)
    refl refl)
    )

pub returns-then-not-is_in_range-clause-step : goal.returns-then-not-is_in_range-clause-step
returns-then-not-is_in_range-clause-step g c = steps.out_of_range _ c.args.self.now c.args.new.now c.in-Some.at c.in-Some.ensures (search rules)

pub returns-in_err-picture-clause-step : goal.returns-in_err-picture-clause-step
returns-in_err-picture-clause-step g c =
    let e = err_from_is_err_and c.from_residual.result c.from_residual.ensures.1 in
    rw (e.1, e.2) (steps.no_memory _ c.args.self.now c.args.new.now c.in-Some.at c.in-Some.ensures _ (search rules) (search rules))

pub returns-in_err-shown-clause-step : goal.returns-in_err-shown-clause-step
returns-in_err-shown-clause-step g c =
    let e = err_from_is_err_and c.from_residual-in_err-shown.result c.from_residual-in_err-shown.ensures.1 in
    rw (e.1, e.2) (steps.no_memory _ c.args.self.now c.args.new.now c.in-Some.at c.in-Some.ensures _ (search rules) (search rules))

pub returns-in_err-update-clause-step : goal.returns-in_err-update-clause-step
returns-in_err-update-clause-step g c =
    let e = err_from_is_err_and c.from_residual-in_err-update.result c.from_residual-in_err-update.ensures.1 in
    rw (e.1, e.2) (steps.no_memory _ c.args.self.now c.args.new.now c.in-Some.at c.in-Some.ensures _ (search rules) (search rules))
