-- Updates that were served, and the desk once all are.
use Rattle.std.specs.Prelude.{◌≡◌, ◌⊎◌, ℕ, true, false, List, [], ◌∷◌, ◌++◌, map, Contains, Ok}
use Rattle.tb_geom.specs.declared.point.Point.{Point}
use Rattle.desk_layers.specs.Desk.{on_screen}
use Rattle.desk_layers.specs.Owner.{owner}
use Rattle.desk_layers.specs.Scratch.{scratch}
use Rattle.desk_call.specs.declared.update.LayerKind.{LayerKind}
use Rattle.desk_call.specs.declared.update.LayerKind.TheVariants.{Picture}
use Rattle.desk_call.specs.declared.update.UpdateCall.{UpdateCall}
use Rattle.desk_call.specs.declared.update.UpdateCall.TheVariants.{Begin, Draw, End}
use Rattle.desk_call.specs.declared.window.WindowReply.TheVariants.{Done}
use Rattle.window_mgr.specs.FullDesk.{FullState, layered_desk}
use Rattle.window_mgr.specs.Telling.{update_of}
use Rattle.window_mgr.specs.Updating.{is_of_kind}
use Rattle.window_mgr.specs.DeskStates.{DeskState}
use Rattle.window_update.specs.UpdateSteps.{IsUpdateStep}
use Rattle.window_update.specs.Waiting.{IsEmpty}

-- these calls are made one after another, and each is done
abbrev pub AreDone : List UpdateCall → DeskState → DeskState → Type 0
AreDone [] before after = after ≡ before
AreDone (call ∷ calls) before after = (next : DeskState) × IsUpdateStep call (Ok Done) before next × AreDone calls next after

-- the call that draws these layers of the window
abbrev pub drawing : ℕ → LayerKind → UpdateCall
drawing s layers = Draw (record { window = s; layers = layers })

-- the update of a window: begun, these layers drawn one after another, and ended
abbrev pub update_drawing : ℕ → List LayerKind → List UpdateCall
update_drawing s kinds = Begin s ∷ map (drawing s) kinds ++ End s ∷ []

-- no pixel of the screen is one of these layers of the window
abbrev pub ShowsNone : ℕ → LayerKind → FullState → Type 0
ShowsNone s kind state = let desk = layered_desk state.desk in
    (p : Point) → on_screen desk p ≡ true → is_of_kind kind s (owner desk p) ≡ false

-- the picture is among these layers, and so are the text records, the lists and the controls, but for those of which the window
-- shows none; in whichever order, each once or more
pub record AreAllKinds (s : ℕ) (state : FullState) (kinds : List LayerKind) : Type 0 where
  pub picture : Contains kinds Picture
  pub others : (kind : LayerKind) → Contains kinds kind ⊎ ShowsNone s kind state

-- no window's update region has a pixel
abbrev pub AreAllServed : FullState → Type 0
AreAllServed state = (s : ℕ) → IsEmpty (update_of s state)

-- the whole screen shows what painting the desk from nothing gives
abbrev pub IsAllRight : FullState → Type 0
IsAllRight state = let desk = layered_desk state.desk in (p : Point) → on_screen desk p ≡ true → state.image p ≡ scratch desk p
