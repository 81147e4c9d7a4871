-- What a call that arranges windows writes on the screen, all in all.
use Rattle.std.specs.Prelude.{◌≡◌, ℕ, ◌==◌, ◌||◌, not, Bool, true, false, List, [], map, Option, None, Some}
use Rattle.std.proofs.Math.Bool.{beq}
use Rattle.tb_geom.specs.declared.point.Point.{Point}
use Rattle.def_iface.specs.Slots.{TakenBox}
use Rattle.def_iface.specs.WindowMeaning.{WindowLoan}
use Rattle.desk_call.specs.declared.window.WindowCall.{WindowCall}
use Rattle.desk_call.specs.declared.window.WindowCall.TheVariants.{Dispose, Show, Hide, ShowHide, Select, BringToFront, SendBehind, Move, Size}
use Rattle.vis_update.specs.Records.{WindowRecord, record_of}
use Rattle.window_mgr.specs.declared.manager.WindowManager.{WindowManager}
use Rattle.window_mgr.specs.Arrange.{way_to}
use Rattle.window_mgr.specs.Finding.{record_with}
use Rattle.window_mgr.specs.FullDesk.{layered_desk}
use Rattle.window_mgr.specs.Records.{desk_of}
use Rattle.window_mgr.specs.Sparing.{IsSparing, moving_content}

-- whether a window is highlighted, if there is one
abbrev pub light : Option WindowRecord → Option Bool
light None = None
light (Some w) = Some w.highlighted

abbrev pub same_light : Option Bool → Option Bool → Bool
same_light None None = true
same_light (Some a) (Some b) = beq a b
same_light _ _ = false

-- the window of this serial changed its highlighting
abbrev pub relit : List WindowRecord → List WindowRecord → ℕ → Bool
relit before after n = not (same_light (light (record_with n before)) (light (record_with n after)))

-- the record, whatever its highlighting
abbrev pub dark : WindowRecord → WindowRecord
dark w = record w { highlighted = false }

abbrev pub darkened : Option WindowRecord → Option WindowRecord
darkened None = None
darkened (Some w) = Some (dark w)

-- each window but the one of this serial is as it was, but for its highlighting
abbrev pub AreOthersLeft : ℕ → List WindowRecord → List WindowRecord → Type 0
AreOthersLeft s before after = (n : ℕ) → (n == s) ≡ false → darkened (record_with n after) ≡ darkened (record_with n before)

-- so these calls leave all windows but the one that they are about; of the other calls nothing is said
abbrev pub LeavesOthers : WindowCall → List WindowRecord → List WindowRecord → Type 0
LeavesOthers (Dispose s) before after = AreOthersLeft s before after
LeavesOthers (Show s) before after = AreOthersLeft s before after
LeavesOthers (Hide s) before after = AreOthersLeft s before after
LeavesOthers (ShowHide c) before after = AreOthersLeft c.window before after
LeavesOthers (Select s) before after = AreOthersLeft s before after
LeavesOthers (BringToFront s) before after = AreOthersLeft s before after
LeavesOthers (SendBehind b) before after = AreOthersLeft b.window before after
LeavesOthers (Move m) before after = AreOthersLeft m.window before after
LeavesOthers (Size z) before after = AreOthersLeft z.window before after
LeavesOthers _ before after = Unit {0}

module _ {V : Type 0} {H : V → Type 0} (loan : TakenBox V H → WindowLoan) where
  abbrev pub windows_of : WindowManager V H → List WindowRecord
  windows_of t = map (record_of loan) t.windows.records.items

  -- a call about the window of this serial, whose content moved so far, if it did: a pixel that no frame owns was written at
  -- most once, and only where its owner changed or moved; one of a frame only where its owner changed, or where its window is
  -- that one or changed its highlighting; and one whose value changed was written
  abbrev pub Economical : ℕ → Option Point → WindowManager V H → WindowManager V H → Type 0
  Economical s by old new = IsSparing (moving_content s by) (λ n. n == s || relit (windows_of old) (windows_of new) n) (layered_desk (desk_of loan old [])) (layered_desk (desk_of loan new [])) old.screen new.screen

  -- so it is after a call that moves, sizes, shows, hides, selects, brings to the front, sends behind or disposes of a window
  abbrev pub IsEconomical : WindowCall → WindowManager V H → WindowManager V H → Type 0
  IsEconomical (Dispose s) old new = Economical s None old new
  IsEconomical (Show s) old new = Economical s None old new
  IsEconomical (Hide s) old new = Economical s None old new
  IsEconomical (ShowHide c) old new = Economical c.window None old new
  IsEconomical (Select s) old new = Economical s None old new
  IsEconomical (BringToFront s) old new = Economical s None old new
  IsEconomical (SendBehind b) old new = Economical b.window None old new
  IsEconomical (Move m) old new = Economical m.window (way_to m.place (record_with m.window (windows_of old))) old new
  IsEconomical (Size z) old new = Economical z.window None old new
  IsEconomical _ old new = Unit {0}
