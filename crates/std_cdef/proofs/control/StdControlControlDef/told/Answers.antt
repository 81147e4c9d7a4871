use Rattle.std.proofs.Common.{sym, ◌∙◌}
use Rattle.def_iface.proofs.KeptControlLemmas.{kept_told}
use Rattle.std_cdef.proofs.Hearing.{std_hears}
use Rattle.std_cdef.proofs.control.StdControlControlDef.told.Goals as goal

pub returns-clause-heard : goal.returns-clause-heard
returns-clause-heard g c = rw c.after-kept.ensures (std_hears g.L.ControlLook.seen g.L.ControlLook.part g.L.ControlLook.value g.L.ControlLook.damaged c.args.change.now c.args.self.now)

pub returns-clause-answered : goal.returns-clause-answered
returns-clause-answered g c p e =
    (λ i. g.L.ControlLook.damaged c.args.self.now.look c.args.self.now.kept ((kept_told c.args.change.now c.args.self.now.kept ∙ sym c.after-kept.ensures) i) p)
    ∙ c.damage-damage.ensures.small p e
