use Rattle.std.proofs.Common.{◌≡◌, rules, true, SFits, w16, w32, sym, ap, ◌∙◌}
use Rattle.std.proofs.lemmas.Int.{to_z-of_z}
use Rattle.control_values.specs.Settings.{is_in_range, settled}
use Rattle.control_mgr.proofs.Sets.{chosen}
use Rattle.control_mgr.proofs.Tracks.{dragged_there, settled_there, told_fits}
use Rattle.control_mgr.proofs.tracking.Controls+TakenControl.dragged.Goals as goal

pub local-from-requires-clause-place : goal.local-from-requires-clause-place
local-from-requires-clause-place g c = (settled_there _ c.args.self.now c.args.at c.index-control.result.now c.requires.at c.index-control.ensures c.requires.settled).placed

pub local-to-requires-clause-place : goal.local-to-requires-clause-place
local-to-requires-clause-place g c = (settled_there _ c.args.self.now c.args.at c.index-control.result.now c.requires.at c.index-control.ensures c.requires.settled).placed

pub thumb_value-requires-clause-live : goal.thumb_value-requires-clause-live
thumb_value-requires-clause-live g c = (settled_there _ c.args.self.now c.args.at c.index-control.result.now c.requires.at c.index-control.ensures c.requires.settled).live

pub thumb_value-requires-clause-told : goal.thumb_value-requires-clause-told
thumb_value-requires-clause-told g c = told_fits _ c.args.self.now c.args.at c.index-control.result.now c.requires.at c.index-control.ensures c.requires.settled

pub unwrap-requires : goal.unwrap-requires
unfolding is_in_range
unwrap-requires g c = search (rules, c.set_value.ensures.in_range, c.from.ensures)

pub returns : goal.returns
returns g c =
    let x = c.index-control.result.now in
    let short : SFits w16 c.thumb_value.result = search rules in
    let from = simp to_z-of_z at c.from.ensures in
    let range : SFits w32 c.from.result = search rules in
    let setting = simp to_z-of_z at c.set_value.ensures.setting in
    let judged = simp to_z-of_z at c.set_value.ensures.in_range in
    let fits : is_in_range c.from.result ≡ true = sym judged ∙ unwrap-requires g c.before in
    dragged_there _ c.args.self.now c.args.at x c.requires.at c.index-control.ensures c.args.tracked c.args.point c.set_value.new.self
    (chosen (is_in_range c.from.result) _ _ c.set_value.new.self setting fits ∙ ap (settled x.kept.values.minimum x.kept.values.maximum) (search (from, c.thumb_value.ensures, c.local-from.ensures, c.local-to.ensures)))
