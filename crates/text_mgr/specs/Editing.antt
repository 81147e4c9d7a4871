-- Edits, as the code judges them.
use Rattle.std.specs.Prelude.{◌≡◌, ◌⊎◌, ℕ, Bool, List, None, Some}
use Rattle.tb_geom.specs.declared.refusal.Refusal.{Refusal}
use Rattle.tb_geom.specs.declared.refusal.Refusal.TheVariants.{NoMemory}
use Rattle.tb_geom.specs.Refusals.{first_refusal}
use Rattle.desk_call.specs.declared.text.TextCall.{TextCall}
use Rattle.desk_call.specs.Steps.{IsRefusedFor}
use Rattle.text_record.specs.Texts.{Record}
use Rattle.text_mgr.specs.CallEdits.{edit_refusals}
use Rattle.text_mgr.specs.TextRefusals.{may_text_grow}

-- something is refused for the first of these whose condition holds, or, where none does, for want of memory
abbrev pub IsRefusedOrShort : List (Bool × Refusal) → Refusal → Type 0
IsRefusedOrShort refusals e = (first_refusal refusals ≡ Some e) ⊎ ((first_refusal refusals ≡ None) × (e ≡ NoMemory))

-- the call is refused for this where it edits this record, with these bytes in the scrap
abbrev pub IsEditRefused : TextCall → List ℕ → Record → Refusal → Type 0
IsEditRefused call scrap r e = IsRefusedFor (λ why. first_refusal (edit_refusals call scrap r) ≡ why) (may_text_grow call) e
