use Rattle.std.proofs.Common.{sym, ap, ◌∙◌}
use Rattle.looks.specs.Letters.{lettering}
use Rattle.def_iface.proofs.KeptLemmas.{kept_title}
use Rattle.std_wdef.specs.Rounded.{round_damage}
use Rattle.std_wdef.proofs.Hearing.{answered, round_hears}
use Rattle.std_wdef.proofs.round_window.RoundWindowWindowDef.told.Goals as goal

pub returns-clause-heard : goal.returns-clause-heard
returns-clause-heard c = rw c.flags_after.ensures (rw c.title_after-title.ensures (rw c.size_after.ensures (round_hears c.args.change c.args.self.now)))

pub returns-clause-damage : goal.returns-clause-damage
returns-clause-damage c = λ font p plane out.
    rw (sym c.is_titled-2.ensures) (rw (sym c.is_titled.ensures)
    (c.round_damage-damage.ensures.alike (lettering font c.args.self.now.title) (lettering font c.title_after-title.result)
    (λ same. ap (lettering font) (c.title_after-title.ensures ∙ kept_title c.args.change c.args.self.now.title (sym c.keeps_title.ensures ∙ same))) p plane out))

pub returns-clause-answered : goal.returns-clause-answered
returns-clause-answered c =
    answered round_damage c.args.change c.args.self.now.flags c.args.self.now.title c.args.self.now.size c.round_damage-damage.result _ _ _ _ c.title_after-title.result _
    c.keeps_title.ensures c.is_titled.ensures c.is_titled-2.ensures c.flags_after.ensures c.title_after-title.ensures c.size_after.ensures c.round_damage-damage.ensures.small
