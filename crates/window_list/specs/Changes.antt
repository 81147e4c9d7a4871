-- What a window's definition is told, and what the window's record keeps of it.
use Rattle.std.specs.Prelude.{◌≡◌, ℕ, Bool, true, false, nat_lt, List, length, slice_set}
use Rattle.tb_geom.specs.declared.rect.Rect.{Rect}
use Rattle.tb_geom.specs.Rects.{rect_holds}
use Rattle.def_iface.specs.Slots.{TakenBox}
use Rattle.def_iface.specs.declared.window_def.Stage.TheVariants.{Live}
use Rattle.def_iface.specs.declared.window_def.WindowChange.{WindowChange}
use Rattle.def_iface.specs.declared.window_def.WindowChange.TheVariants.{Resized, Titled, Highlighted, Closable, Zoomed, Tracked}
use Rattle.def_iface.specs.WindowNews.{no_news, told_change}
use Rattle.def_iface.specs.WindowMeaning.{WindowLoan, SameRegions, WindowHears, IsDamage, IsWithin}
use Rattle.window_list.specs.declared.window.Window.{Window}

-- the change is none of the size
abbrev pub keeps_size : WindowChange → Bool
keeps_size (Resized s) = false
keeps_size _ = true

-- the title that the change brings, if it brings one, has at most 255 bytes
abbrev pub has_short_title : WindowChange → Bool
has_short_title (Titled t) = nat_lt (length t.now) 256
has_short_title _ = true

module _ {V : Type 0} {H : V → Type 0} where
  -- the window's record after its definition was told so: it keeps that, and the title, the highlighting and the go-away box
  -- are the window's own too
  abbrev pub with_change : WindowChange → Window V H → Window V H
  with_change (Titled t) w = record w { title = record { items = t.now } }
  with_change (Highlighted b) w = record w { highlighted = b; heard = record w.heard { highlighted = b } }
  with_change (Closable b) w = record w { go_away = b }
  with_change (Zoomed b) w = record w { heard = record w.heard { zoomed = b } }
  with_change (Tracked b) w = record w { heard = record w.heard { tracked = b } }
  with_change (Resized s) w = w

  -- the definition of the i-th window, which is w, was told of the change and is live as before, and the record keeps what
  -- it keeps of that; outside the damage its pictures are as they were, and the damage is one that it may answer
  pub record IsNotifiedAt (loan : TakenBox V H → WindowLoan) (i : ℕ) (change : WindowChange) (damage : Rect) (w : Window V H) (old new : List (Window V H)) : Type 0 where
    pub taken : TakenBox V H
    pub items : new ≡ slice_set old i (record (with_change change w) { taken = taken })
    pub live : (loan taken).definition.stage ≡ Live
    pub size : (loan taken).definition.size ≡ (loan w.taken).definition.size
    pub regions : SameRegions (loan w.taken).definition (loan taken).definition
    pub heard : WindowHears (told_change change) (loan w.taken).definition (loan taken).definition
    pub slot : (loan taken).slot ≡ (loan w.taken).slot
    pub damaged : IsDamage damage (loan w.taken).definition (loan taken).definition
    pub answered : IsWithin (rect_holds damage) ((loan w.taken).definition.damage (told_change change no_news))
