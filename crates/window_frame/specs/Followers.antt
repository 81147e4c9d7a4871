-- Whose definitions are told how their windows stand, once a call on windows was done.
use Rattle.std.specs.Prelude.{◌≡◌, ◌⊎◌, ℕ, ◌==◌, ◌&&◌, ◌||◌, not, Bool, false, List, [], ◌∷◌, Some, All}
use Rattle.std.proofs.Math.Bool.{beq}
use Rattle.std.specs.Option.{is_some}
use Rattle.def_iface.specs.WindowNews.{WindowNews, told_highlighted, told_zoomed}
use Rattle.desk_call.specs.declared.activity.Standing.{Standing}
use Rattle.desk_call.specs.declared.activity.Standing.TheVariants.{Asks}
use Rattle.vis_update.specs.Records.{WindowRecord}
use Rattle.window_mgr.specs.Finding.{record_with}
use Rattle.window_mgr.specs.FrameNotices.{IsFrameNotified}
use Rattle.window_mgr.specs.FullDesk.{FullState}

-- what a call on windows may change without telling the definition
pub data Flag : Type 0 where
  Highlighting : Flag
  Zooming : Flag

-- how the window stands
abbrev pub flag_of : Flag → WindowRecord → Bool
flag_of Highlighting w = w.highlighted
flag_of Zooming w = is_some w.user_state

-- what its definition heard last
abbrev pub heard_of : Flag → WindowRecord → Bool
heard_of Highlighting w = w.heard.highlighted
heard_of Zooming w = w.heard.zoomed

-- its definition heard how the window stands
abbrev pub Knows : Flag → WindowRecord → Type 0
Knows flag w = heard_of flag w ≡ flag_of flag w

-- it is told how the window stands
abbrev pub told_flag : Flag → WindowRecord → WindowNews → WindowNews
told_flag Highlighting w = told_highlighted w.highlighted
told_flag Zooming w = told_zoomed (is_some w.user_state)

-- and the record keeps that
abbrev pub with_heard : Flag → WindowRecord → WindowRecord
with_heard Highlighting w = record w { heard = record w.heard { highlighted = w.highlighted } }
with_heard Zooming w = record w { heard = record w.heard { zoomed = is_some w.user_state } }

-- a window, and what its definition is told of it
pub record Telling : Type 0 where
  pub window : ℕ
  pub flag : Flag

-- the window's definition, which had heard otherwise, was told how the window stands, and the frame was drawn
pub record IsNotified (t : Telling) (before after : FullState) : Type 0 where
  pub told : IsFrameNotified t.window (told_flag t.flag) (with_heard t.flag) before after
  pub otherwise : Knows t.flag told.window → ⊥

-- the window of this serial has a definition that knew how it stands, and nothing changed, or one that was told
abbrev pub IsInformed : Flag → ℕ → FullState → FullState → Type 0
IsInformed flag s before after =
    (((w : WindowRecord) → record_with s before.desk.windows ≡ Some w → Knows flag w) × (after ≡ before))
    ⊎ IsNotified (record { window = s; flag = flag }) before after

-- these were told, one after another
abbrev pub AreNotified : List Telling → FullState → FullState → Type 0
AreNotified [] before after = after ≡ before
AreNotified (t ∷ ts) before after = (middle : FullState) × IsNotified t before middle × AreNotified ts middle after

-- each window's definition knows how the window stands
abbrev pub AreInformed : List WindowRecord → Type 0
AreInformed windows = All (λ w. Knows Highlighting w × Knows Zooming w) windows

-- the definitions that had heard otherwise were told how their windows stand, and no other was told anything
abbrev pub IsCaughtUp : FullState → FullState → Type 0
IsCaughtUp before after = (tellings : List Telling) × AreNotified tellings before after × AreInformed after.desk.windows

-- so it is after a call of this standing; after one that asks none was told anything
abbrev pub IsCaughtUpBy : Standing → FullState → FullState → Type 0
IsCaughtUpBy Asks before after = after ≡ before
IsCaughtUpBy _ before after = IsCaughtUp before after

-- whether its definition heard how the window stands
abbrev pub is_informed : WindowRecord → Bool
is_informed w = beq w.heard.highlighted w.highlighted && beq w.heard.zoomed (is_some w.user_state)

-- whether there is a window of this serial whose definition heard otherwise
abbrev pub is_behind : List WindowRecord → ℕ → Bool
is_behind [] s = false
is_behind (w ∷ ws) s = (w.serial == s && not (is_informed w)) || is_behind ws s

-- whether this flag is what its definition heard
abbrev pub knows : Flag → WindowRecord → Bool
knows flag w = beq (heard_of flag w) (flag_of flag w)

-- no frame is drawn anew but that of this window, and that only where its definition heard otherwise
abbrev pub draws_told : Flag → WindowRecord → ℕ → Bool
draws_told flag w n = n == w.serial && not (knows flag w)
