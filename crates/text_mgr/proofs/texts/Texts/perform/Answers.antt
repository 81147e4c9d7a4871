use Rattle.std.proofs.Common.{sym, ◌∙◌}
use Rattle.text_mgr.specs.Spots.{opened}
use Rattle.text_mgr.proofs.Performed.{edits_idle, idle_selectable}
use Rattle.text_mgr.proofs.texts.Texts.perform.Goals as goal

pub returns-in-Some-clause-step : goal.returns-in-Some-clause-step
returns-in-Some-clause-step g c begun = c.edit.ensures (opened c.args.activity.now begun)

pub returns-in-Some-clause-selectable : goal.returns-in-Some-clause-selectable
returns-in-Some-clause-selectable g c =
    idle_selectable c.args.activity.now c.edit.new.self.list.items.items (edits_idle c.args.call.now c.in-Some.text c.args.activity.now (sym c.text_edited.ensures ∙ c.in-Some.is) c.requires.admitted)
