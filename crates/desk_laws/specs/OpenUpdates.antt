-- What a run does between the begin and the end of a window's update.
use Rattle.std.specs.Prelude.{◌≡◌, ◌≢◌, ◌⊎◌, ℕ, List, [], ◌∷◌, ◌++◌, Result, Ok, All}
use Rattle.tb_geom.specs.declared.refusal.Refusal.{Refusal}
use Rattle.desk_call.specs.declared.call.Call.{Call}
use Rattle.desk_call.specs.declared.call.Call.TheVariants.{Update}
use Rattle.desk_call.specs.declared.call.Reply.{Reply}
use Rattle.desk_call.specs.declared.call.Reply.TheVariants as reply
use Rattle.desk_call.specs.declared.update.LayerKind.{LayerKind}
use Rattle.desk_call.specs.declared.update.LayerKind.TheVariants.{Picture}
use Rattle.desk_call.specs.declared.update.UpdateCall.TheVariants.{Begin, End}
use Rattle.desk_call.specs.declared.window.WindowReply.TheVariants.{Done}
use Rattle.window_mgr.specs.FullDesk.{FullState}
use Rattle.window_update.specs.Served.{ShowsNone, drawing}

-- what a call answers that is done, and has nothing to tell
abbrev pub done : Result Reply Refusal
done = Ok (reply.Window Done)

-- the update of this window begins, these calls follow, and the last one comes; and the answers of such a run
abbrev pub begun_until : ℕ → List Call → Call → List Call
begun_until window calls last_call = Update (Begin window) ∷ calls ++ last_call ∷ []

abbrev pub answered_until : List (Result Reply Refusal) → Result Reply Refusal → List (Result Reply Refusal)
answered_until answers last_answer = done ∷ answers ++ last_answer ∷ []

-- none of these calls ends the window's update
abbrev pub IsNotEnded : ℕ → List Call → Type 0
IsNotEnded window calls = All (λ call. call ≢ Update (End window)) calls

-- among these calls, which were answered so, is one that drew these layers of the window
abbrev pub IsDrawnIn : ℕ → LayerKind → List Call → List (Result Reply Refusal) → Type 0
IsDrawnIn window kind (call ∷ calls) (answer ∷ answers) =
    ((call ≡ Update (drawing window kind)) × (answer ≡ done)) ⊎ IsDrawnIn window kind calls answers
IsDrawnIn window kind _ _ = ⊥

-- they drew its picture, and its text records, its lists and its controls, but for those of which it showed none before; in
-- whichever order, each once or more
pub record IsAllDrawn (window : ℕ) (before : FullState) (calls : List Call) (answers : List (Result Reply Refusal)) : Type 0 where
  pub picture : IsDrawnIn window Picture calls answers
  pub others : (kind : LayerKind) → IsDrawnIn window kind calls answers ⊎ ShowsNone window kind before
