use Rattle.std.proofs.Common.{sym, ap, ◌∙◌}
use Rattle.looks.specs.Letters.{lettering}
use Rattle.def_iface.proofs.KeptLemmas.{kept_title}
use Rattle.std_wdef.specs.Windows.{shown_damage}
use Rattle.std_wdef.proofs.Hearing.{answered, std_hears}
use Rattle.std_wdef.proofs.std_window.StdWindowWindowDef.told.Goals as goal

pub returns-clause-heard : goal.returns-clause-heard
returns-clause-heard c = rw c.flags_after.ensures (rw c.title_after-title.ensures (rw c.size_after.ensures (std_hears c.args.change c.args.self.now)))

pub returns-clause-damage : goal.returns-clause-damage
returns-clause-damage c = λ font p plane out.
    rw (sym c.is_titled-2.ensures) (rw (sym c.is_titled.ensures)
    (c.told_damage-damage.ensures.alike (lettering font c.args.self.now.title) (lettering font c.title_after-title.result)
    (λ same. ap (lettering font) (c.title_after-title.ensures ∙ kept_title c.args.change c.args.self.now.title (sym c.keeps_title.ensures ∙ same))) p plane out))

pub returns-clause-answered : goal.returns-clause-answered
returns-clause-answered c =
    answered (shown_damage c.args.self.now.variation) c.args.change c.args.self.now.flags c.args.self.now.title c.args.self.now.size c.told_damage-damage.result _ _ _ _ c.title_after-title.result _
    c.keeps_title.ensures c.is_titled.ensures c.is_titled-2.ensures c.flags_after.ensures c.title_after-title.ensures c.size_after.ensures c.told_damage-damage.ensures.small
