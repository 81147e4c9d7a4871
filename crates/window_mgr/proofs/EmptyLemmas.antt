-- A desk without windows is whole and right.
use Rattle.std.proofs.Common.{◌≡◌, inl, ℕ, Bool, true, false, ◌&&◌, not, if◌then◌else◌, List, [], map, None, Some, ℤ, pos, ◌-ℤ◌, refl, sym, ap, ◌∙◌, subst, arith}
use Rattle.std.specs.Prelude.{int_le, int_lt, slice_get, All}
use Rattle.std.specs.Ordering.{int_eq}
use Rattle.std.proofs.lemmas.Bool.{and_parts, false≢true}
use Rattle.std.proofs.lemmas.Int.{ints}
use Rattle.std.proofs.lemmas.Option.{slice_get_within, get_or_from_slice_get}
use Rattle.std.proofs.lemmas.List.Elements.{All-nil}
use Rattle.tb_geom.specs.declared.point.Point.{Point}
use Rattle.tb_geom.specs.Rects.{between}
use Rattle.tb_geom.specs.Pixels.{holds}
use Rattle.bit_map.specs.Bits.{on_map, bit}
use Rattle.bit_map.specs.Patterns.{pattern_bit}
use Rattle.def_iface.specs.Slots.{TakenBox}
use Rattle.def_iface.specs.WindowMeaning.{WindowLoan}
use Rattle.def_iface.specs.WindowSlots.{WindowSlot, IsFull}
use Rattle.desk_layers.specs.Desk as layers
use Rattle.desk_layers.specs.Owner.{owner, own_bit, same_owner, is_content}
use Rattle.desk_layers.specs.Owner.Owner.{Bar, Desktop}
use Rattle.desk_layers.specs.Scratch.{scratch}
use Rattle.desk_layers.proofs.Painting.{scratch_is_owners}
use Rattle.window_mgr.specs.declared.manager.WindowManager.{WindowManager}
use Rattle.vis_update.specs.declared.area.Area.{Area}
use Rattle.window_mgr.specs.FullDesk.{FullDesk, layered_desk}
use Rattle.desk_ground.specs.Screens.{desktop}
use Rattle.vis_update.specs.Records.{record_of}
use Rattle.window_mgr.specs.Records.{desk_of}
use Rattle.window_paint.specs.White.{all_white}
use Rattle.vis_update.specs.Areas.{stale_in}
use Rattle.window_mgr.specs.Begin.{IsEmptyDesk, empty_desk}
use Rattle.desk_ground.specs.Grounds.{IsGround}
use Rattle.window_mgr.specs.Whole.{IsWholeManager, IsSoundDesk, LieThere}
use Rattle.desk_ground.specs.Screens.{is_bar, is_screen, is_screen_side}
use Rattle.vis_update.specs.Areas.{IsGray, IsDesktop, AreAreas}
use Rattle.window_mgr.proofs.Arranged.{between-is_below}

pub below_rows : (bar v height : ℤ) → is_bar bar ≡ true → between bar v height ≡ (between (pos 0) v height && not (int_lt v bar))
below_rows bar v height e = grind (arith, ints)

and-assoc : (a b c : Bool) → (a && (b && c)) ≡ ((a && b) && c)
and-assoc true b c = refl
and-assoc false b c = refl

pub row_of_bar : (bar v : ℤ) → is_bar bar ≡ true → int_le (pos 0) v ≡ true → int_lt v bar ≡ true → int_eq v (bar -ℤ pos 1) ≡ int_eq v (pos 19)
row_of_bar bar v e low high = grind (arith, ints)

pub no_row : (bar v : ℤ) → int_lt v bar ≡ false → int_eq v (bar -ℤ pos 1) ≡ false
no_row bar v e = grind (arith, ints)

full_slot : (slots : List WindowSlot) → All IsFull slots → (k : ℕ) (s : WindowSlot) → slice_get slots k ≡ Some s → IsFull s
full_slot slots full k s e = subst IsFull (get_or_from_slice_get slots k s s e) (full k s (slice_get_within slots k s e))

-- what is known of a desk that begins
pub record IsBegun {V : Type 0} {H : V → Type 0} (width height bar : ℤ) (font : List ℕ) (t : WindowManager V H) : Type 0 where
  pub screen : is_screen width height bar ≡ true
  pub ground : IsGround width height bar (record { screen = t.screen; gray = t.gray; desktop = t.desktop })
  pub rows : t.bar ≡ record { rows = bar; titles = [] }
  pub texts : t.font ≡ font
  pub windows : t.windows.records.items ≡ []
  pub areas : t.areas.items ≡ []
  pub active : t.windows.active ≡ None
  pub next : t.windows.next ≡ Some 1

module _ {V : Type 0} {H : V → Type 0} (loan : TakenBox V H → WindowLoan) (width height bar : ℤ) (font : List ℕ) (t : WindowManager V H) (B : IsBegun width height bar font t) (slots : List WindowSlot) (full : All IsFull slots) where
  abbrev empty : FullDesk
  empty = empty_desk width height bar font slots

  desk_is : desk_of loan t slots ≡ empty
  desk_is = λ i. record {
    width = B.ground.wide i;
    height = B.ground.high i;
    bar = B.rows i;
    font = B.texts i;
    shows = all_white;
    windows = map (record_of loan) (B.windows i);
    active = B.active i;
    next = B.next i;
    stock = slots;
  }

  bar_is : is_bar bar ≡ true
  bar_is = (and_parts (is_bar bar) _ (and_parts (is_screen_side height) _ (and_parts (is_screen_side width) _ B.screen).1).1).0

  gray_is : IsGray (layered_desk empty) t.gray
  gray_is p =
      B.ground.gray p
      ∙ ap (λ b. between (pos 0) p.h width && b) (below_rows bar p.v height bar_is)
      ∙ and-assoc (between (pos 0) p.h width) (between (pos 0) p.v height) (not (int_lt p.v bar))

  on_ground : (p : Point) → layers.on_screen (layered_desk empty) p ≡ on_map t.screen p
  unfolding on_map
  on_ground p =
      (λ i. between (pos 0) p.h (sym B.ground.wide i) && between (pos 0) p.v (sym B.ground.high i))
      ∙ (λ i. between-is_below t.screen.width p.h i && between-is_below t.screen.height p.v i)

  plain_is : (p : Point) → layers.on_screen (layered_desk empty) p ≡ true → bit t.screen p ≡ own_bit (layered_desk empty) (owner (layered_desk empty) p) p
  plain_is p on = B.ground.pixels p (sym (on_ground p) ∙ on) ∙ by_bar (int_lt p.v bar) refl
    where
      low : int_le (pos 0) p.v ≡ true
      low = (and_parts (int_le (pos 0) p.v) _ (and_parts (between (pos 0) p.h width) _ on).1).0

      by_bar : (b : Bool) → int_lt p.v bar ≡ b → (if int_eq p.v (bar -ℤ pos 1) then true else (if holds t.gray p then pattern_bit desktop p else false)) ≡ own_bit (layered_desk empty) (owner (layered_desk empty) p) p
      by_bar true e =
          let g : holds t.gray p ≡ false = gray_is p ∙ (λ i. on i && not (e i)) in
          rw (row_of_bar bar p.v bar_is low e, g, e) (by_row (int_eq p.v (pos 19)))
        where
          by_row : (b : Bool) → (if b then true else false) ≡ b
          by_row true = refl
          by_row false = refl
      by_bar false e =
          let g : holds t.gray p ≡ true = gray_is p ∙ (λ i. on i && not (e i)) in
          rw (no_row bar p.v e, g, e) refl

  desktop_is : IsDesktop (layered_desk empty) t.desktop
  desktop_is p = B.ground.desktop p ∙ gray_is p ∙ ap (λ b. layers.on_screen (layered_desk empty) p && b) (by_bar (layers.in_bar (layered_desk empty) p))
    where
      by_bar : (b : Bool) → not b ≡ same_owner (if b then Bar else Desktop) Desktop
      by_bar true = refl
      by_bar false = refl

  sound : IsSoundDesk empty
  sound = record {
    screen = B.screen;
    distinct = tt;
    serials = (omega arith, tt);
    few = omega arith;
    settled = All-nil _;
    stocked = record {
      left = All-nil _;
      apart = λ i j d low within. absurd (omega arith);
      others = λ k s e. inl (full_slot slots full k s e);
    };
  }

  none_stale : (p : Point) → stale_in t.areas.items p ≡ false
  none_stale p = ap (λ areas. stale_in areas p) B.areas

  pub empty_is_whole : IsWholeManager loan t slots
  empty_is_whole = record {
    sound = subst IsSoundDesk (sym desk_is) sound;
    gray = subst (λ (d : FullDesk). IsGray (layered_desk d) t.gray) (sym desk_is) gray_is;
    desktop = subst (λ (d : FullDesk). IsDesktop (layered_desk d) t.desktop) (sym desk_is) desktop_is;
    areas = subst (λ (x : FullDesk × List Area). AreAreas (layered_desk x.0) (stale_in x.1) x.0.windows x.1) (λ i. (sym desk_is i, sym B.areas i)) tt;
    frames = subst (λ (d : FullDesk). (p : Point) → layers.on_screen (layered_desk d) p ≡ true → is_content (owner (layered_desk d) p) ≡ false → bit t.screen p ≡ own_bit (layered_desk d) (owner (layered_desk d) p) p) (sym desk_is)
        (λ p on content. plain_is p on);
    layers = subst (All LieThere) (sym B.windows) (All-nil _);
  }

  pub is_empty_desk : IsEmptyDesk loan width height bar font t slots
  is_empty_desk = record {
    desk = desk_is;
    drawn = none_stale;
    whole = empty_is_whole;
    right = record {
      plain = record {
        desk = empty_is_whole.sound.distinct;
        right = subst (λ (d : FullDesk). (p : Point) → layers.on_screen (layered_desk d) p ≡ true → stale_in t.areas.items p ≡ false → bit t.screen p ≡ scratch (layered_desk d) p) (sym desk_is)
            (λ p on stale. plain_is p on ∙ sym (scratch_is_owners (layered_desk empty) p tt));
        content = λ p on stale. absurd (false≢true (sym (none_stale p) ∙ stale));
      };
      serials = empty_is_whole.sound.serials;
    };
  }
