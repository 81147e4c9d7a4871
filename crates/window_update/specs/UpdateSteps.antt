-- One step of a call about updates: what it leaves, and what it answers.
use Rattle.std.specs.Prelude.{◌≡◌, ℕ, Result, Ok, Err}
use Rattle.tb_geom.specs.declared.point.Point.{Point}
use Rattle.tb_geom.specs.declared.refusal.Refusal.{Refusal}
use Rattle.tb_geom.specs.Points.{PixelSet}
use Rattle.desk_layers.specs.Change.{Change, no_change, IsChanged}
use Rattle.desk_call.specs.declared.activity.Activity.TheVariants.{Idle, Updating}
use Rattle.desk_call.specs.declared.update.LayerKind.{LayerKind}
use Rattle.desk_call.specs.declared.update.UpdateCall.{UpdateCall}
use Rattle.desk_call.specs.declared.update.UpdateCall.TheVariants.{Invalidate, Validate, Begin, Draw, End, Serve}
use Rattle.desk_call.specs.declared.update.WindowArea.{WindowArea}
use Rattle.desk_call.specs.declared.window.WindowReply.{WindowReply}
use Rattle.desk_call.specs.declared.window.WindowReply.TheVariants.{Done}
use Rattle.vis_update.specs.Areas.{is_content_of}
use Rattle.window_mgr.specs.FullDesk.{FullState, layered_state}
use Rattle.window_mgr.specs.Effects.{IsUnchanged}
use Rattle.desk_call.specs.Steps.{IsRefusedFor, IsStepOf}
use Rattle.window_mgr.specs.Telling.{IsRegionTold, IsNotTold, update_of}
use Rattle.window_mgr.specs.Updating.{IsRefreshed, is_of_kind}
use Rattle.window_update.specs.Sets.{IsAreaOf, marked_in}
use Rattle.window_mgr.specs.DeskStates.{DeskState, IsDeskUnchanged, SameActivity}
use Rattle.window_update.specs.UpdateRefusals.{IsUpdateRefusal, may_update_grow}

-- the change of a call that puts pixels of a window into the update set
abbrev pub adding : ℕ → PixelSet → FullState → Change
adding s set before = record no_change { added = marked_in s set before.desk }

-- that of one that takes them out, being right
abbrev pub taking : ℕ → PixelSet → FullState → Change
taking s set before = record no_change { taken = marked_in s set before.desk }

-- only what is to be redrawn changed
pub record IsMarked (c : Change) (before after : FullState) : Type 0 where
  pub desk : after.desk ≡ before.desk
  pub pixels : IsChanged c (layered_state before) (layered_state after)

-- an area of a window was marked, by this change of its pixels
abbrev pub IsAreaMarked : (ℕ → PixelSet → FullState → Change) → WindowArea → DeskState → DeskState → Type 0
IsAreaMarked change m before after = SameActivity before after
    × ((set : PixelSet) × IsAreaOf m.area set × IsMarked (change m.window set before.windows) before.windows after.windows)

-- the update of this window began
pub record IsUpdateBegun (s : ℕ) (before after : DeskState) : Type 0 where
  pub windows : IsUnchanged before.windows after.windows
  pub opened : after.activity ≡ Updating s
  pub begun : (p : Point) → after.begun p ≡ update_of s before.windows p

-- these layers of the window were drawn where they were to be
abbrev pub AreDrawn : LayerKind → ℕ → FullState → FullState → Type 0
AreDrawn kind s before after = IsRefreshed (is_of_kind kind s) before after

-- what a call that nothing refuses leaves
abbrev pub IsUpdateEffect : UpdateCall → DeskState → DeskState → Type 0
IsUpdateEffect (Invalidate m) before after = IsAreaMarked adding m before after
IsUpdateEffect (Validate m) before after = IsAreaMarked taking m before after
IsUpdateEffect (Begin s) before after = IsUpdateBegun s before after
IsUpdateEffect (Draw d) before after = SameActivity before after × AreDrawn d.layers d.window before.windows after.windows
IsUpdateEffect (End s) before after = (after.activity ≡ Idle) × IsUnchanged before.windows after.windows
-- begun, all layers drawn, and ended
IsUpdateEffect (Serve s) before after = (after.activity ≡ Idle) × IsRefreshed (is_content_of s) before.windows after.windows

-- the call is refused for this
abbrev pub IsUpdateRefused : UpdateCall → Refusal → FullState → Type 0
IsUpdateRefused call e state = IsRefusedFor (IsUpdateRefusal call state) (may_update_grow call) e

-- one step of a call about updates
abbrev pub IsUpdateStep : UpdateCall → Result WindowReply Refusal → DeskState → DeskState → Type 0
IsUpdateStep call = IsStepOf (λ before. IsUpdateRefusal call before.windows) (may_update_grow call)
    (λ answer before after. (answer ≡ Done) × IsUpdateEffect call before after) IsDeskUnchanged

-- the answer tells the region of these pixels, or why it does not
abbrev pub IsToldOf : PixelSet → Result WindowReply Refusal → Type 0
IsToldOf set (Ok answer) = IsRegionTold set answer
IsToldOf set (Err e) = IsNotTold set e
