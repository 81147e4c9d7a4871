use Rattle.std.proofs.Common.{sym, ◌∙◌}
use Rattle.desk_call.specs.declared.activity.Activity.TheVariants.{Selecting}
use Rattle.text_edits.specs.Selecting.{extended_to}
use Rattle.text_mgr.specs.Spots.{opened}
use Rattle.text_mgr.proofs.Clicks.{step_outside, stepped}
use Rattle.text_mgr.proofs.Selected.{not_missing, put_texts, still_low, still_selectable, told_selected, within_open}
use Rattle.text_mgr.proofs.texts.Texts.step.Goals as goal

pub returns-then-not-is_in_range-clause-step : goal.returns-then-not-is_in_range-clause-step
returns-then-not-is_in_range-clause-step g c begun =
    step_outside _ c.args.selecting c.args.point c.args.windows.now c.args.self.now (sym c.is_in_range.ensures ∙ c.if-not-is_in_range.true) (opened (Selecting c.args.selecting) begun)

pub returns-in_err-spot-clause-step : goal.returns-in_err-spot-clause-step
returns-in_err-spot-clause-step g c =
    let none = not_missing _ c.args.selecting c.args.windows.now c.args.self.now c.requires.selectable c.requires.beside in
    let some = c.in_err-spot.ensures in
    absurd (cc)

pub extend_to-requires-clause-within : goal.extend_to-requires-clause-within
extend_to-requires-clause-within g c = within_open _ c.args.selecting c.args.windows.now c.args.self.now c.requires.selectable c.in_ok-spot.spot c.in_ok-spot.ensures

pub selected-requires : goal.selected-requires
selected-requires g c =
    let k = c.args.selecting in
    let spot = c.in_ok-spot.spot in
    let is = c.in_ok-spot.ensures in
    let m = c.args.self.now in
    let f = extended_to k.anchor k.mode c.args.point in
    still_low _ k.text f c.args.windows.now c.extend_to.new.windows m c.extend_to.new.self spot is
    (put_texts _ k.text f c.args.windows.now c.extend_to.new.windows m c.extend_to.new.self spot is c.requires.kept c.requires.beside (c.extend_to.ensures k.text is))

pub returns-clause-step : goal.returns-clause-step
returns-clause-step g c begun =
    let k = c.args.selecting in
    let spot = c.in_ok-spot.spot in
    let is = c.in_ok-spot.ensures in
    let m = c.args.self.now in
    let n = c.extend_to.new.self in
    let f = extended_to k.anchor k.mode c.args.point in
    let put = c.extend_to.ensures k.text is in
    let texts = put_texts _ k.text f c.args.windows.now c.extend_to.new.windows m n spot is c.requires.kept c.requires.beside put in
    stepped _ k c.args.point c.args.windows.now m spot is (sym c.is_in_range.ensures ∙ c.if-not-is_in_range.false) c.extend_to.new.windows n put c.selected.result
    (told_selected _ k.text c.args.windows.now m spot is k.anchor k.mode c.args.point n texts c.extend_to.new.windows c.selected.result c.selected.ensures) begun

pub returns-clause-selectable : goal.returns-clause-selectable
returns-clause-selectable g c =
    let k = c.args.selecting in
    let spot = c.in_ok-spot.spot in
    let is = c.in_ok-spot.ensures in
    let m = c.args.self.now in
    let n = c.extend_to.new.self in
    let f = extended_to k.anchor k.mode c.args.point in
    still_selectable _ k.text c.args.windows.now m spot is k.anchor k.mode c.args.point n
    (put_texts _ k.text f c.args.windows.now c.extend_to.new.windows m n spot is c.requires.kept c.requires.beside (c.extend_to.ensures k.text is))
    c.extend_to.new.windows c.requires.selectable.2 (within_open _ k c.args.windows.now m c.requires.selectable spot is)
