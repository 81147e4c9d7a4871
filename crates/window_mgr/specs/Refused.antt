-- Why a call refuses: the first refusal of the written order whose condition holds.
use Rattle.std.specs.Prelude.{◌≡◌, ◌⊎◌, ℕ, Bool, if◌then◌else◌, true, false, not, ◌==◌, ◌&&◌, ◌||◌, List, [], ◌∷◌, ◌++◌, length, Option, None, Some, is_none, nat_le, nat_lt}
use Rattle.std.specs.List.{list_all}
use Rattle.tb_geom.specs.declared.point.Point.{Point}
use Rattle.tb_geom.specs.declared.refusal.Refusal.{Refusal}
use Rattle.tb_geom.specs.Points.{PixelSet, plus}
use Rattle.tb_geom.specs.declared.refusal.Refusal.TheVariants.{NoSuchName, NoSuchWindow, OutOfRange, TooLong, TooMany, NoDefinition, BadRegion, BadSyntax}
use Rattle.tb_geom.specs.Refusals.{first_refusal, number_of}
use Rattle.tb_geom.specs.Rects.{in_plane}
use Rattle.draw_port.specs.declared.shapes.Op.{Op}
use Rattle.lent_ops.specs.declared.op_ref.OpRef.{OpRef}
use Rattle.lent_ops.specs.declared.region_ref.RegionRef.{RegionRef}
use Rattle.lent_ops.specs.Asked.{asked_holds, IsGoodRegion, IsRegionRefused}
use Rattle.lent_ops.specs.OpRefs.{IsGood, IsRefused}
use Rattle.def_iface.specs.declared.size.Size as sizes
use Rattle.def_iface.specs.WindowSlots.{has_kind, offered}
use Rattle.window_list.specs.Holders.{fits_at}
use Rattle.vis_update.specs.Records.{WindowRecord}
use Rattle.vis_update.specs.Places.{is_placed}
use Rattle.vis_update.specs.Touches.{is_this}
use Rattle.desk_call.specs.declared.window.WindowCall.{WindowCall}
use Rattle.desk_call.specs.declared.window.WindowCall.TheVariants.{New, NewFloating, Dispose, Show, Hide, ShowHide, Select, BringToFront, SendBehind, Move, Size, Zoom, Draw, SetPicture, Scroll, Find, Front, Info, VisibleRegion, UpdateRegion, Region}
use Rattle.desk_call.specs.declared.window.MoveWindow.{MoveWindow}
use Rattle.desk_call.specs.declared.window.NewPicture.{NewPicture}
use Rattle.desk_call.specs.declared.window.NewWindow.{NewWindow}
use Rattle.desk_call.specs.declared.window.ScrollPicture.{ScrollPicture}
use Rattle.desk_call.specs.declared.window.SendBehind as sending
use Rattle.desk_call.specs.declared.window.SizeWindow.{SizeWindow}
use Rattle.desk_call.specs.declared.window.ZoomWindow.{ZoomWindow}
use Rattle.desk_call.specs.Parts.{zoom_of}
use Rattle.window_mgr.specs.Finding.{record_with}
use Rattle.window_mgr.specs.FullDesk.{FullDesk, FullState}
use Rattle.window_mgr.specs.Placings.{Placing, sized, zoomed}
use Rattle.window_mgr.specs.Telling.{IsMeasured, visible_of, update_of}

-- as many windows as there may be
abbrev pub most_windows : ℕ
most_windows = 64

-- the longest text
abbrev pub longest_text : ℕ
longest_text = 255

-- no window can be added to so many: there are as many as there may be, or no serial is left for it
abbrev pub is_full : ℕ → Option ℕ → Bool
is_full count next = nat_le most_windows count || is_none next

-- why a window may be refused whatever the stock holds: it may not be where it is to be, its title is too long, or
-- there are too many
abbrev pub judged_refusals : NewWindow → Bool → ℕ → Option ℕ → List (Bool × Refusal)
judged_refusals w placed count next =
    (not placed, OutOfRange) ∷ (nat_lt longest_text (length w.title), TooLong) ∷ (is_full count next, TooMany) ∷ []

-- why the name of its kind may be refused
abbrev pub kind_refusals : NewWindow → FullDesk → List (Bool × Refusal)
kind_refusals w desk = (not (has_kind w.kind desk.stock), NoSuchName) ∷ []

abbrev pub new_window_refusals : NewWindow → FullDesk → List (Bool × Refusal)
new_window_refusals w desk =
    kind_refusals w desk
    ++ judged_refusals w (is_placed (offered w.kind desk.stock) w.place w.size) (length desk.windows) desk.next
    ++ (is_none (offered w.kind desk.stock), NoDefinition) ∷ []

-- the refusal is of bytes that have not their form
abbrev pub is_formal : Refusal → Bool
is_formal BadSyntax = true
is_formal BadRegion = true
is_formal _ = false

-- what judging an operation finds: nothing, or why it is refused
abbrev pub IsJudged : OpRef → Option Refusal → Type 0
IsJudged op None = IsGood op
IsJudged op (Some e) = IsRefused op e

-- what judging a region that is asked for finds
abbrev pub IsRegionJudged : RegionRef → Option Refusal → Type 0
IsRegionJudged r None = IsGoodRegion r
IsRegionJudged r (Some e) = IsRegionRefused r e

-- judging found this
abbrev pub is_found : Refusal → Option Refusal → Bool
is_found e None = false
is_found e (Some f) = number_of f == number_of e

-- the operations of the picture of a window, if there is one
abbrev pub picture_of : Option WindowRecord → List Op
picture_of None = []
picture_of (Some w) = w.picture

-- as many operations as a picture may have
abbrev pub most_operations : ℕ
most_operations = 1024

-- why the bytes of an operation may be refused, where judging it found this: they are no image, or no region
abbrev pub form_refusals : Option Refusal → List (Bool × Refusal)
form_refusals judged = (is_found BadSyntax judged, BadSyntax) ∷ (is_found BadRegion judged, BadRegion) ∷ []

-- why an operation in a window may be refused, where judging it found this: by its bytes, or there is no such window, a
-- number is out of range, the text is too long, or the picture is full
abbrev pub draw_refusals : Option Refusal → Option WindowRecord → List (Bool × Refusal)
draw_refusals judged window =
    form_refusals judged ++ (is_none window, NoSuchWindow)
    ∷ (is_found OutOfRange judged, OutOfRange) ∷ (is_found TooLong judged, TooLong)
    ∷ (nat_le most_operations (length (picture_of window)), TooMany) ∷ []

-- the window may be at this place with this size, and all its layers with it, shown or not
abbrev pub may_stand : Point → sizes.Size → WindowRecord → Bool
may_stand place size w = is_placed (Some w.definition) place size && list_all (fits_at place) w.layers

-- the window may be at this place, if there is one
abbrev pub may_be_at : Point → Option WindowRecord → Bool
may_be_at place None = true
may_be_at place (Some w) = may_stand place w.size w

-- there is no such window
abbrev pub is_missing : ℕ → List WindowRecord → Bool
is_missing s ws = is_none (record_with s ws)

-- the record of the window that is named, if one is
abbrev pub named_record : Option ℕ → List WindowRecord → Option WindowRecord
named_record None ws = None
named_record (Some s) ws = record_with s ws

-- a window is named that there is not
abbrev pub is_named_missing : Option ℕ → List WindowRecord → Bool
is_named_missing None ws = false
is_named_missing (Some s) ws = is_missing s ws

-- both windows are there, and one of them floats alone
abbrev pub are_apart : Option WindowRecord → Option WindowRecord → Bool
are_apart (Some v) (Some w) = if v.floating then not w.floating else w.floating
are_apart None o = false
are_apart (Some v) None = false

-- why a window may not be sent behind another: one of them is missing, or they are one, or they are of two classes
abbrev pub behind_refusals : sending.SendBehind → FullDesk → List (Bool × Refusal)
behind_refusals b desk =
    (is_missing b.window desk.windows, NoSuchWindow) ∷ (is_named_missing b.behind desk.windows, NoSuchWindow)
    ∷ (is_this b.behind b.window, OutOfRange)
    ∷ (are_apart (record_with b.window desk.windows) (named_record b.behind desk.windows), OutOfRange) ∷ []

-- why a window may not be moved: it is missing, or may not be there
abbrev pub move_refusals : MoveWindow → FullDesk → List (Bool × Refusal)
move_refusals m desk =
    (is_missing m.window desk.windows, NoSuchWindow)
    ∷ (not (may_be_at m.place (record_with m.window desk.windows)), OutOfRange) ∷ []

-- the window may lie where it is put, if there is one and it is put anywhere
abbrev pub may_lie : Option Placing → Option WindowRecord → Bool
may_lie None o = true
may_lie (Some p) None = true
may_lie (Some p) (Some w) = may_stand p.to.place p.to.size w

-- why a window may not get a size: it is missing, or may not have it
abbrev pub size_refusals : SizeWindow → FullDesk → List (Bool × Refusal)
size_refusals z desk =
    let w = record_with z.window desk.windows in
    (is_missing z.window desk.windows, NoSuchWindow) ∷ (not (may_lie (sized z w) w), OutOfRange) ∷ []

-- why a window may not be zoomed: it is missing, or the part does not zoom, or it may not lie so
abbrev pub zoom_refusals : ZoomWindow → FullDesk → List (Bool × Refusal)
zoom_refusals z desk =
    let w = record_with z.window desk.windows in
    (is_missing z.window desk.windows, NoSuchWindow) ∷ (is_none (zoom_of z.part), OutOfRange)
    ∷ (not (may_lie (zoomed z w desk) w), OutOfRange) ∷ []

-- why a window may not get a picture: it is missing, or the origin is no point
abbrev pub picture_refusals : NewPicture → FullDesk → List (Bool × Refusal)
picture_refusals n desk = (is_missing n.window desk.windows, NoSuchWindow) ∷ (not (in_plane n.origin), OutOfRange) ∷ []

-- the picture's origin, moved by this, is a point, if there is such a window
abbrev pub may_scroll : Point → Option WindowRecord → Bool
may_scroll by None = true
may_scroll by (Some w) = in_plane (plus w.origin by)

-- why a window's picture may not be scrolled: the window is missing, or the origin would be no point
abbrev pub scroll_refusals : ScrollPicture → FullDesk → List (Bool × Refusal)
scroll_refusals m desk =
    (is_missing m.window desk.windows, NoSuchWindow)
    ∷ (not (may_scroll m.by (record_with m.window desk.windows)), OutOfRange) ∷ []

-- why a call about one window may be refused that asks nothing more of it: it is missing
abbrev pub window_refusals : ℕ → FullDesk → List (Bool × Refusal)
window_refusals s desk = (is_missing s desk.windows, NoSuchWindow) ∷ []

-- why a region of a window may not be told, where these are its pixels: the window is missing, or the bytes would be too
-- long
abbrev pub IsUntold : ℕ → PixelSet → FullDesk → Option Refusal → Type 0
IsUntold s set desk why = (long : Bool) × IsMeasured set long
    × (first_refusal ((is_missing s desk.windows, NoSuchWindow) ∷ (long, TooLong) ∷ []) ≡ why)

-- why a region that is asked for may not be told: what it is made of is refused, or its bytes would be too long
abbrev pub IsAskedUntold : RegionRef → Option Refusal → Type 0
IsAskedUntold r why =
    ((e : Refusal) × IsRegionRefused r e × (Some e ≡ why))
    ⊎ (IsGoodRegion r × ((long : Bool) × IsMeasured (asked_holds r) long × (first_refusal ((long, TooLong) ∷ []) ≡ why)))

-- why the call refuses, want of memory aside
abbrev pub IsRefusal : WindowCall → FullState → Option Refusal → Type 0
IsRefusal (New w) state why = first_refusal (new_window_refusals w state.desk) ≡ why
IsRefusal (NewFloating w) state why = first_refusal (new_window_refusals w state.desk) ≡ why
IsRefusal (Draw d) state why = (judged : Option Refusal) × IsJudged d.operation judged
    × (first_refusal (draw_refusals judged (record_with d.window state.desk.windows)) ≡ why)
IsRefusal (SetPicture n) state why = first_refusal (picture_refusals n state.desk) ≡ why
IsRefusal (Scroll m) state why = first_refusal (scroll_refusals m state.desk) ≡ why
IsRefusal (SendBehind b) state why = first_refusal (behind_refusals b state.desk) ≡ why
IsRefusal (Move m) state why = first_refusal (move_refusals m state.desk) ≡ why
IsRefusal (Size z) state why = first_refusal (size_refusals z state.desk) ≡ why
IsRefusal (Zoom z) state why = first_refusal (zoom_refusals z state.desk) ≡ why
IsRefusal (Find p) state why = first_refusal ((not (in_plane p), OutOfRange) ∷ []) ≡ why
IsRefusal Front state why = None ≡ why
IsRefusal (VisibleRegion s) state why = IsUntold s (visible_of s state) state.desk why
IsRefusal (UpdateRegion s) state why = IsUntold s (update_of s state) state.desk why
IsRefusal (Region r) state why = IsAskedUntold r why
IsRefusal (Dispose s) state why = first_refusal (window_refusals s state.desk) ≡ why
IsRefusal (Show s) state why = first_refusal (window_refusals s state.desk) ≡ why
IsRefusal (Hide s) state why = first_refusal (window_refusals s state.desk) ≡ why
IsRefusal (ShowHide c) state why = first_refusal (window_refusals c.window state.desk) ≡ why
IsRefusal (Select s) state why = first_refusal (window_refusals s state.desk) ≡ why
IsRefusal (BringToFront s) state why = first_refusal (window_refusals s state.desk) ≡ why
IsRefusal (Info s) state why = first_refusal (window_refusals s state.desk) ≡ why

-- what of that comes before all else, whatever is open: a name that no table has, or bytes without their form
abbrev pub IsFormRefusal : WindowCall → FullDesk → Option Refusal → Type 0
IsFormRefusal (New w) desk why = first_refusal (kind_refusals w desk) ≡ why
IsFormRefusal (NewFloating w) desk why = first_refusal (kind_refusals w desk) ≡ why
IsFormRefusal (Draw d) desk why = (judged : Option Refusal) × IsJudged d.operation judged
    × (first_refusal (form_refusals judged) ≡ why)
IsFormRefusal (Region r) desk why = (judged : Option Refusal) × IsRegionJudged r judged
    × (first_refusal (form_refusals judged) ≡ why)
IsFormRefusal _ desk why = None ≡ why

-- the call may ask for memory
abbrev pub may_grow : WindowCall → Bool
may_grow (New w) = true
may_grow (NewFloating w) = true
may_grow (Dispose s) = true
may_grow (Show s) = true
may_grow (Hide s) = true
may_grow (ShowHide c) = true
may_grow (Select s) = true
may_grow (BringToFront s) = true
may_grow (SendBehind b) = true
may_grow (Move m) = true
may_grow (Size z) = true
may_grow (Zoom z) = true
may_grow (Draw d) = true
may_grow (SetPicture c) = true
may_grow (Scroll c) = true
may_grow (VisibleRegion s) = true
may_grow (UpdateRegion s) = true
may_grow (Region f) = true
may_grow _ = false
