use Rattle.std.proofs.Common.{◌≡◌, ℕ, ◌<◌, false, get_or}
use Rattle.def_iface.specs.Slots.{slot_view, offers}
use Rattle.def_iface.proofs.slots.Slots.first_offer.Given as goal

abbrev pub invariant-loop-at : goal.invariant-loop-at
invariant-loop-at g l =
    (k : ℕ) (d : _) → k < l.at → offers (λ b. g.T.Held.stage_of (g.T.Held.meaning b)) l.kind (slot_view (get_or l.self.slots.items k d)) ≡ false
