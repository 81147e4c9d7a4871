-- What is open where a call about updates may come.
use Rattle.std.proofs.Common.{◌≡◌, ℕ, ◌==◌, Bool, true, false, if◌then◌else◌, None, Some, refl, sym, ap, ◌∙◌}
use Rattle.std.proofs.lemmas.Bool.{eqb-true}
use Rattle.tb_geom.specs.declared.refusal.Refusal.TheVariants.{NotBusy}
use Rattle.desk_call.specs.declared.activity.Activity.{Activity}
use Rattle.desk_call.specs.declared.activity.Activity.TheVariants.{Idle, Updating, Tracking, Pulling, TrackingControl, Dragging, Growing, Selecting}
use Rattle.desk_call.specs.declared.activity.Standing.TheVariants.{Updates, Changes}
use Rattle.desk_call.specs.declared.update.UpdateCall.{UpdateCall}
use Rattle.desk_call.specs.Gates.{gate, update_standing}

-- nothing, where a call comes that changes something
pub changes_idle : (a : Activity) (call : UpdateCall) → gate a (update_standing call) ≡ None → update_standing call ≡ Changes → a ≡ Idle
changes_idle a call admitted changes = by_activity a (ap (gate a) (sym changes) ∙ admitted)
  where
    by_activity : (b : Activity) → gate b Changes ≡ None → b ≡ Idle
    by_activity Idle e = refl
    by_activity (Updating s) e = absurd (cc)
    by_activity (Tracking s) e = absurd (cc)
    by_activity (Pulling m) e = absurd (cc)
    by_activity (TrackingControl c) e = absurd (cc)
    by_activity (Dragging d) e = absurd (cc)
    by_activity (Growing g) e = absurd (cc)
    by_activity (Selecting k) e = absurd (cc)

-- so the update of no window is
pub no_update : (a : Activity) → a ≡ Idle → (s : ℕ) → a ≡ Updating s → ⊥
no_update a idle s is = absurd (cc)

-- the update of the window, where a call comes that goes on with it
pub updates_open : (a : Activity) (s : ℕ) (call : UpdateCall) → gate a (update_standing call) ≡ None → update_standing call ≡ Updates s → a ≡ Updating s
updates_open a s call admitted updates = by_activity a (ap (gate a) (sym updates) ∙ admitted)
  where
    same : (t : ℕ) (b : Bool) → (t == s) ≡ b → (if b then None else Some NotBusy) ≡ None → Updating t ≡ Updating s
    same t true e h = ap Updating (eqb-true t s e)
    same t false e h = absurd (cc)

    by_activity : (b : Activity) → gate b (Updates s) ≡ None → b ≡ Updating s
    by_activity Idle e = absurd (cc)
    by_activity (Updating t) e = same t (t == s) refl e
    by_activity (Tracking t) e = absurd (cc)
    by_activity (Pulling m) e = absurd (cc)
    by_activity (TrackingControl c) e = absurd (cc)
    by_activity (Dragging d) e = absurd (cc)
    by_activity (Growing g) e = absurd (cc)
    by_activity (Selecting k) e = absurd (cc)
