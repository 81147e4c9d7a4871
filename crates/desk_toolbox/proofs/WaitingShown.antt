-- Which window is to be updated does not depend on what windows show of controls.
use Rattle.std.proofs.Common.{◌≡◌, inl, inr, ℕ, Bool, true, false, if◌then◌else◌, List, [], ◌∷◌, Option, sym, ap, ◌∙◌}
use Rattle.tb_geom.specs.declared.point.Point.{Point}
use Rattle.tb_geom.specs.Points.{PixelSet}
use Rattle.desk_layers.specs.declared.part.Part.{Part}
use Rattle.vis_update.specs.Records.{WindowRecord}
use Rattle.window_mgr.specs.DeskStates.{DeskState, is_updating}
use Rattle.window_mgr.specs.Records.{state_showing}
use Rattle.window_mgr.proofs.Showing.{update_showing}
use Rattle.window_update.specs.Waiting.{IsFirstToUpdate, IsFirstWaiting, IsWaiting, update_told}

module _ (shows : List ℕ → Part → PixelSet) (d : DeskState) where
  abbrev shown : DeskState
  shown = record d { windows = state_showing shows d.windows }

  told_same : (s : ℕ) (p : Point) → update_told s shown p ≡ update_told s d p
  told_same s p = ap (λ b. if is_updating s d.activity then false else b) (update_showing shows d.windows s p)

  waiting_showing : (s : ℕ) (b : Bool) → IsWaiting s d b → IsWaiting s shown b
  waiting_showing s true some = λ none. some (λ p. sym (told_same s p) ∙ none p)
  waiting_showing s false none = λ p. told_same s p ∙ none p

  first_waiting : (ws : List WindowRecord) (first : Option ℕ) → IsFirstWaiting d ws first → IsFirstWaiting shown ws first
  first_waiting [] first is = is
  first_waiting (w ∷ ws) first (inl (waits, is)) = inl (waiting_showing w.serial true waits, is)
  first_waiting (w ∷ ws) first (inr (rests, later)) = inr (waiting_showing w.serial false rests, first_waiting ws first later)

  pub first_showing : (first : Option ℕ) → IsFirstToUpdate d first → IsFirstToUpdate shown first
  first_showing first is = first_waiting d.windows.desk.windows first is
