-- Why a call about updates refuses: the first refusal of the written order whose condition holds.
use Rattle.std.specs.Prelude.{◌≡◌, Bool, true, false, List, [], ◌∷◌, ◌++◌, Option, None, Some, if◌then◌else◌}
use Rattle.tb_geom.specs.declared.refusal.Refusal.{Refusal}
use Rattle.tb_geom.specs.declared.refusal.Refusal.TheVariants.{BadRegion, NoSuchWindow, OutOfRange, StalePixels}
use Rattle.tb_geom.specs.Points.{PixelSet}
use Rattle.desk_call.specs.declared.update.UpdateCall.{UpdateCall}
use Rattle.desk_call.specs.declared.update.UpdateCall.TheVariants.{Invalidate, Validate, Begin, Draw, End, Serve}
use Rattle.desk_call.specs.declared.update.WindowArea.{WindowArea}
use Rattle.window_mgr.specs.FullDesk.{FullState}
use Rattle.tb_geom.specs.Refusals.{first_refusal}
use Rattle.window_mgr.specs.Refused.{is_found, is_missing, window_refusals}
use Rattle.window_update.specs.Sets.{IsAreaOf, IsAreaJudged}
use Rattle.window_update.specs.Rightness.{IsJudgement}

-- why the bytes of an area may be refused, where judging it found this
abbrev pub area_form : Option Refusal → List (Bool × Refusal)
area_form judged = (is_found BadRegion judged, BadRegion) ∷ []

-- why an area of a window may be refused, where judging it found this: by its bytes, or the window is missing, or a coordinate
-- lies out of range
abbrev pub area_refusals : Option Refusal → Bool → List (Bool × Refusal)
area_refusals judged missing = area_form judged ++ (missing, NoSuchWindow) ∷ (is_found OutOfRange judged, OutOfRange) ∷ []

abbrev pub IsAreaRefusal : WindowArea → FullState → Option Refusal → Type 0
IsAreaRefusal m state why = (judged : Option Refusal) × IsAreaJudged m.area judged
    × (first_refusal (area_refusals judged (is_missing m.window state.desk.windows)) ≡ why)

-- what was not refused by its area is refused where its pixels are not right
abbrev pub IsStaleRefusal : WindowArea → FullState → Option Refusal → Option Refusal → Type 0
IsStaleRefusal m state (Some e) why = Some e ≡ why
IsStaleRefusal m state None why = (set : PixelSet) × IsAreaOf m.area set
    × ((right : Bool) × IsJudgement m.window set state right × ((if right then None else Some StalePixels) ≡ why))

-- why the call refuses, want of memory aside
abbrev pub IsUpdateRefusal : UpdateCall → FullState → Option Refusal → Type 0
IsUpdateRefusal (Invalidate m) state why = IsAreaRefusal m state why
IsUpdateRefusal (Validate m) state why = (by_area : Option Refusal)
    × IsAreaRefusal m state by_area × IsStaleRefusal m state by_area why
IsUpdateRefusal (Begin s) state why = first_refusal (window_refusals s state.desk) ≡ why
IsUpdateRefusal (Draw d) state why = first_refusal (window_refusals d.window state.desk) ≡ why
IsUpdateRefusal (End s) state why = None ≡ why
IsUpdateRefusal (Serve s) state why = first_refusal (window_refusals s state.desk) ≡ why

-- what of that comes before all else, whatever is open
abbrev pub IsAreaForm : WindowArea → Option Refusal → Type 0
IsAreaForm m why = (judged : Option Refusal) × IsAreaJudged m.area judged × (first_refusal (area_form judged) ≡ why)

abbrev pub IsUpdateForm : UpdateCall → Option Refusal → Type 0
IsUpdateForm (Invalidate m) why = IsAreaForm m why
IsUpdateForm (Validate m) why = IsAreaForm m why
IsUpdateForm _ why = None ≡ why

-- the call may ask for memory
abbrev pub may_update_grow : UpdateCall → Bool
may_update_grow (Invalidate m) = true
may_update_grow (Validate m) = true
may_update_grow (Begin s) = true
may_update_grow _ = false
