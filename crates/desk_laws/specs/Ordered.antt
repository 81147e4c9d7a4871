-- The reasons to refuse a call, and the written order.
use Rattle.std.specs.Prelude.{◌≡◌, Bool, true, List, map}
use Rattle.tb_geom.specs.declared.refusal.Refusal.{Refusal}
use Rattle.tb_geom.specs.Refusals.{in_order}

-- what is told is named in the written order
abbrev pub AreInOrder : List (Bool × Refusal) → Type 0
AreInOrder reasons = in_order (map (λ r. r.1) reasons) ≡ true
