use Rattle.std.proofs.Common.{rules, SFits, w32, sym, ◌∙◌}
use Rattle.std.proofs.lemmas.Int.{to_z-of_z}
use Rattle.text_edits.specs.Selecting.{extended_to}
use Rattle.text_mgr.specs.Spots.{opened}
use Rattle.text_mgr.proofs.Clicks.{click_missing, click_outside, clicked_so, no_mode, not_clicked}
use Rattle.text_mgr.proofs.Performed.{idle_selectable}
use Rattle.text_mgr.proofs.Selected.{put_texts, still_selectable, within_read}
use Rattle.text_mgr.proofs.texts.Texts.click.Goals as goal

pub returns-in_err-spot-clause-step : goal.returns-in_err-spot-clause-step
returns-in_err-spot-clause-step g c begun =
    click_missing _ c.args.clicked c.args.windows.now c.args.self.now c.from_residual.result c.in_err-spot.field-0.0 (opened c.args.activity.now begun) (search rules) c.in_err-spot.ensures

pub returns-in_err-spot-clause-selectable : goal.returns-in_err-spot-clause-selectable
returns-in_err-spot-clause-selectable g c = idle_selectable c.args.activity.now c.args.self.now.list.items.items c.requires.idle

pub returns-then-not-is_in_range-clause-step : goal.returns-then-not-is_in_range-clause-step
returns-then-not-is_in_range-clause-step g c begun =
    click_outside _ c.args.clicked c.args.windows.now c.args.self.now c.in_ok-spot.spot c.in_ok-spot.ensures (sym c.is_in_range.ensures ∙ c.if-not-is_in_range.true) (opened c.args.activity.now begun)

pub returns-then-not-is_in_range-clause-selectable : goal.returns-then-not-is_in_range-clause-selectable
returns-then-not-is_in_range-clause-selectable g c = idle_selectable c.args.activity.now c.args.self.now.list.items.items c.requires.idle

pub returns-in_default-clause-step : goal.returns-in_default-clause-step
returns-in_default-clause-step g c begun =
    let number : SFits w32 c.args.clicked.mode = search rules in
    no_mode _ c.args.clicked c.args.windows.now c.args.self.now c.in_ok-spot.spot c.in_ok-spot.ensures (sym c.is_in_range.ensures ∙ c.if-not-is_in_range.false)
    (sym (simp to_z-of_z at c.click_mode.ensures) ∙ c.in_default.is) (opened c.args.activity.now begun)

pub returns-in_default-clause-selectable : goal.returns-in_default-clause-selectable
returns-in_default-clause-selectable g c = idle_selectable c.args.activity.now c.args.self.now.list.items.items c.requires.idle

pub returns-then-not-is_clicked-clause-step : goal.returns-then-not-is_clicked-clause-step
returns-then-not-is_clicked-clause-step g c begun =
    let number : SFits w32 c.args.clicked.mode = search rules in
    not_clicked _ c.args.clicked c.args.windows.now c.args.self.now c.in_ok-spot.spot c.in_ok-spot.ensures (sym c.is_in_range.ensures ∙ c.if-not-is_in_range.false)
    c.in-Some.mode (sym (simp to_z-of_z at c.click_mode.ensures) ∙ c.in-Some.is) c.index.result.now c.index.ensures (sym c.is_clicked.ensures ∙ c.if-not-is_clicked.true) (opened c.args.activity.now begun)

pub returns-then-not-is_clicked-clause-selectable : goal.returns-then-not-is_clicked-clause-selectable
returns-then-not-is_clicked-clause-selectable g c = idle_selectable c.args.activity.now c.args.self.now.list.items.items c.requires.idle

pub extend_to-requires-clause-within : goal.extend_to-requires-clause-within
extend_to-requires-clause-within g c =
    within_read _ c.args.clicked.text c.args.windows.now c.args.self.now c.in_ok-spot.spot c.in_ok-spot.ensures c.click_anchor-anchor.result c.index.result.now c.index.ensures c.click_anchor-anchor.ensures.within

pub returns-clause-step : goal.returns-clause-step
returns-clause-step g c begun =
    let number : SFits w32 c.args.clicked.mode = search rules in
    let spot = c.in_ok-spot.spot in
    let is = c.in_ok-spot.ensures in
    clicked_so _ c.args.clicked c.args.windows.now c.args.self.now spot is (sym c.is_in_range.ensures ∙ c.if-not-is_in_range.false)
    c.in-Some.mode (sym (simp to_z-of_z at c.click_mode.ensures) ∙ c.in-Some.is) c.index.result.now c.index.ensures (sym c.is_clicked.ensures ∙ c.if-not-is_clicked.false)
    c.click_anchor-anchor.result c.click_anchor-anchor.ensures.value c.extend_to.new.windows c.extend_to.new.self c.args.activity.now begun (c.extend_to.ensures c.args.clicked.text is)

pub returns-clause-selectable : goal.returns-clause-selectable
returns-clause-selectable g c =
    let spot = c.in_ok-spot.spot in
    let is = c.in_ok-spot.ensures in
    let m = c.args.self.now in
    let a = c.click_anchor-anchor.result in
    still_selectable _ c.args.clicked.text c.args.windows.now m spot is a c.in-Some.mode c.args.clicked.point c.extend_to.new.self
    (put_texts _ c.args.clicked.text (extended_to a c.in-Some.mode c.args.clicked.point) c.args.windows.now c.extend_to.new.windows m c.extend_to.new.self spot is c.requires.kept c.requires.beside (c.extend_to.ensures c.args.clicked.text is))
    c.extend_to.new.windows c.click_anchor-anchor.ensures.order
    (within_read _ c.args.clicked.text c.args.windows.now m spot is a c.index.result.now c.index.ensures c.click_anchor-anchor.ensures.within)
