-- The windows of a list, and one of them changed.
use Rattle.std.specs.Prelude.{◌≡◌, ℕ, Bool, ◌==◌, List, [], ◌∷◌, Option, None, Some, if◌then◌else◌, zero, suc, map, nat_lt, false, ◌+◌, ◌++◌, ◌^◌, true, slice_set, not, ◌&&◌}
use Rattle.tb_geom.specs.declared.point.Point.{Point}
use Rattle.draw_port.specs.declared.shapes.Op.{Op}
use Rattle.def_iface.specs.Slots.{TakenBox}
use Rattle.def_iface.specs.declared.window_def.Stage.TheVariants.{Live}
use Rattle.def_iface.specs.WindowMeaning.{WindowLoan, SameRegions, WindowHears}
use Rattle.window_list.specs.Holders.{PlacedLayers}
use Rattle.window_list.specs.Classes.{put_front}
use Rattle.window_list.specs.Ranks.{Ranked}
use Rattle.window_list.specs.declared.window.Placement.{Placement}
use Rattle.window_list.specs.declared.window.UserState.{UserState}
use Rattle.std.specs.Option.{is_some}
use Rattle.def_iface.specs.WindowNews.{told_placed}
use Rattle.window_list.specs.declared.window.Window.{Window}

-- the list with f of its i-th element in the place of that
abbrev pub edit : {T : Type 0} → (T → T) → ℕ → List T → List T
edit f i [] = []
edit f zero (x ∷ xs) = f x ∷ xs
edit f (suc i) (x ∷ xs) = x ∷ edit f i xs

abbrev pub edit_at : {T : Type 0} → (T → T) → ℕ → Ranked T → Ranked T
edit_at f i r = record r { items = edit f i r.items }

-- the list with f of each element in the place of that
abbrev pub map_ranked : {T : Type 0} → (T → T) → Ranked T → Ranked T
map_ranked f r = record r { items = map f r.items }

-- the serial after this one, of 64 bits
abbrev pub serial_after : ℕ → Option ℕ
serial_after n = if nat_lt (n + 1) (2 ^ 64) then Some (n + 1) else None

module _ {V : Type 0} {H : V → Type 0} where
  -- the window, without its highlighting if it is the one of this serial
  abbrev pub dimmed : Option ℕ → Window V H → Window V H
  dimmed None w = w
  dimmed (Some s) w = if w.serial == s then record w { highlighted = false } else w

  -- the window has this serial
  abbrev pub has_serial : ℕ → Window V H → Bool
  has_serial serial w = w.serial == serial

  -- the window floats
  abbrev pub floats : Window V H → Bool
  floats w = w.floating

  -- the window is visible, and ordinary: one that may be active
  abbrev pub leads : Window V H → Bool
  leads w = w.shown && not w.floating

  -- the serial of the first visible ordinary window
  abbrev pub first_leading : List (Window V H) → Option ℕ
  first_leading [] = None
  first_leading (w ∷ ws) = if leads w then Some w.serial else first_leading ws

  -- the windows once a new one is at the front of its class; where it becomes active, the one that was loses its highlighting
  abbrev pub with_new : Option ℕ → Window V H → List (Window V H) → List (Window V H)
  with_new active w ws = put_front floats w (if leads w then map (dimmed active) ws else ws)

  -- the window at this place, with its layers, visible or not, and with this user state
  abbrev pub with_stand : Point → Bool → Option UserState → Window V H → Window V H
  with_stand place shown user_state w = record w {
    place = place;
    shown = shown;
    user_state = user_state;
    layers = record w.layers { place = place };
  }

  -- the window, highlighted if it is the one of this serial
  abbrev pub lit : Option ℕ → Window V H → Window V H
  lit None w = w
  lit (Some s) w = if w.serial == s then record w { highlighted = true } else w

  -- the window where another one becomes active in the place of the former
  abbrev pub relit : Option ℕ → Option ℕ → Window V H → Window V H
  relit former active w = lit active (dimmed former w)

  -- the window with this picture, whose 0 0 lies there
  abbrev pub with_picture : List Op → Point → Window V H → Window V H
  with_picture picture origin w = record w { picture = picture; origin = origin }

  -- the window with these layers in front of its picture
  abbrev pub with_layers : PlacedLayers → Window V H → Window V H
  with_layers layers w = record w { layers = layers }

  abbrev pub with_origin : Point → Window V H → Window V H
  with_origin origin w = record w { origin = origin }

  -- the window with this operation behind all others of its picture
  abbrev pub with_operation : Op → Window V H → Window V H
  with_operation op w = record w { picture = w.picture ++ op ∷ [] }

  -- the window with this place and size, and whether it is zoomed, which its definition was told
  abbrev pub with_place_and_size : Placement → Window V H → Window V H
  with_place_and_size to w = record w {
    place = to.place;
    size = to.size;
    user_state = to.user_state;
    heard = record w.heard { zoomed = is_some to.user_state };
    layers = record w.layers { place = to.place };
  }

  -- the i-th window, which is w, has this place and size, and its definition, which is live as before, was told the size
  pub record IsPlacedAt (loan : TakenBox V H → WindowLoan) (i : ℕ) (to : Placement) (w : Window V H) (old new : List (Window V H)) : Type 0 where
    pub taken : TakenBox V H
    pub items : new ≡ slice_set old i (record (with_place_and_size to w) { taken = taken })
    pub live : (loan taken).definition.stage ≡ Live
    pub told : (loan taken).definition.size ≡ to.size
    pub heard : WindowHears (told_placed to.size (is_some to.user_state)) (loan w.taken).definition (loan taken).definition
    pub regions : SameRegions (loan w.taken).definition (loan taken).definition
    pub slot : (loan taken).slot ≡ (loan w.taken).slot

  -- the definition was the last window's, and that window is gone
  pub record IsLastBox (old : List (Window V H)) (taken : TakenBox V H) (new : List (Window V H)) : Type 0 where
    pub window : Window V H
    pub last : old ≡ new ++ window ∷ []
    pub its : taken ≡ window.taken
