-- What a call that arranges windows writes on the screen, at the most.
use Rattle.std.specs.Prelude.{◌≡◌, ◌≢◌, ℕ, ◌==◌, ◌+◌, ◌<◌, ◌≤◌, Bool, true, false, [], Option, None, Some}
use Rattle.tb_geom.specs.declared.point.Point.{Point}
use Rattle.bit_map.specs.Bits.{Bits, bit, count}
use Rattle.desk_layers.specs.Desk.{LayeredDesk, on_screen}
use Rattle.desk_layers.specs.Owner.{Owner, owner, same_owner}
use Rattle.desk_layers.specs.Owner.Owner.{Frame}
use Rattle.def_iface.specs.Slots.{TakenBox}
use Rattle.def_iface.specs.WindowMeaning.{WindowLoan}
use Rattle.desk_call.specs.declared.window.WindowCall.{WindowCall}
use Rattle.desk_call.specs.declared.window.WindowCall.TheVariants.{Dispose, Show, Hide, ShowHide, Select, BringToFront, SendBehind, Move, Size}
use Rattle.vis_update.specs.Areas.{is_content_of}
use Rattle.window_mgr.specs.declared.manager.WindowManager.{WindowManager}
use Rattle.window_mgr.specs.Arrange.{way_to}
use Rattle.window_mgr.specs.Finding.{record_with}
use Rattle.window_mgr.specs.FullDesk.{layered_desk}
use Rattle.window_mgr.specs.Records.{desk_of}

-- the owner is a window's frame
abbrev pub is_frame : Owner → Bool
is_frame (Frame s) = true
is_frame _ = false

-- `moves` says of which owners the pixels move, and `draws` of which windows the frame may be drawn anew
pub record IsSparing (moves : Owner → Bool) (draws : ℕ → Bool) (before after : LayeredDesk) (old new : Bits) : Type 0 where
  -- a pixel that no frame owns after the call is written at most once
  pub once : (p : Point) → on_screen after p ≡ true → is_frame (owner after p) ≡ false → count new p ≤ count old p + 1
  -- and only where its owner changed, or its pixels move
  pub spared : (p : Point) → on_screen after p ≡ true → is_frame (owner after p) ≡ false
      → same_owner (owner before p) (owner after p) ≡ true → moves (owner after p) ≡ false → count new p ≡ count old p
  -- a pixel of a frame is written only where its owner changed, or where that frame may be drawn anew
  pub frames : (s : ℕ) (p : Point) → on_screen after p ≡ true → same_owner (owner after p) (Frame s) ≡ true
      → same_owner (owner before p) (Frame s) ≡ true → draws s ≡ false → count new p ≡ count old p
  -- no number falls
  pub rises : (p : Point) → on_screen after p ≡ true → count old p ≤ count new p
  -- a pixel whose value changed was written
  pub changed : (p : Point) → on_screen after p ≡ true → bit new p ≢ bit old p → count old p < count new p

-- frames of windows were drawn anew, those of which `draws` says it and no other: owners are as they were, and no pixel was
-- written but those of these frames
pub record IsRepainted (draws : ℕ → Bool) (before after : LayeredDesk) (old new : Bits) : Type 0 where
  pub owners : (p : Point) → owner after p ≡ owner before p
  pub screens : (p : Point) → on_screen after p ≡ on_screen before p
  pub others : (p : Point) → on_screen before p ≡ true → ((s : ℕ) → same_owner (owner before p) (Frame s) ≡ true → draws s ≡ false)
      → count new p ≡ count old p
  pub rises : (p : Point) → on_screen before p ≡ true → count old p ≤ count new p
  pub changed : (p : Point) → on_screen before p ≡ true → bit new p ≢ bit old p → count old p < count new p

-- the pixels of this window's content move, if any do
abbrev pub moving_content : ℕ → Option Point → Owner → Bool
moving_content s None o = false
moving_content s (Some by) o = is_content_of s o

module _ {V : Type 0} {H : V → Type 0} (loan : TakenBox V H → WindowLoan) where
  -- a call about the window of this serial wrote no more on the screen, where that one's content moved so far, if it did
  abbrev pub Spares : ℕ → Option Point → WindowManager V H → WindowManager V H → Type 0
  Spares s by old new = IsSparing (moving_content s by) (λ n. n == s) (layered_desk (desk_of loan old [])) (layered_desk (desk_of loan new [])) old.screen new.screen

  -- nor did one of these calls; of the others nothing is said
  abbrev pub IsSparingCall : WindowCall → WindowManager V H → WindowManager V H → Type 0
  IsSparingCall (Dispose s) old new = Spares s None old new
  IsSparingCall (Show s) old new = Spares s None old new
  IsSparingCall (Hide s) old new = Spares s None old new
  IsSparingCall (ShowHide c) old new = Spares c.window None old new
  IsSparingCall (Select s) old new = Spares s None old new
  IsSparingCall (BringToFront s) old new = Spares s None old new
  IsSparingCall (SendBehind b) old new = Spares b.window None old new
  IsSparingCall (Move m) old new = Spares m.window (way_to m.place (record_with m.window (desk_of loan old []).windows)) old new
  IsSparingCall (Size z) old new = Spares z.window None old new
  IsSparingCall _ old new = Unit {0}

  -- frames of windows were drawn anew on the screen
  abbrev pub Repaints : (ℕ → Bool) → WindowManager V H → WindowManager V H → Type 0
  Repaints draws old new = IsRepainted draws (layered_desk (desk_of loan old [])) (layered_desk (desk_of loan new [])) old.screen new.screen
