-- A base image that is copied, and a menu over it: drawn, and drawn anew where it changed.
use Rattle.std.proofs.Common.{◌≡◌, ℕ, ◌≤◌, Bool, true, false, not, cond, ◌&&◌, if◌then◌else◌, List, [], ◌∷◌, Some, None, ℤ, pos, negsuc, ◌-ℤ◌, refl, sym, ap, ◌∙◌, arith}
use Rattle.std.proofs.lemmas.Int.{ints}
use Rattle.std.proofs.lemmas.Bool.Decides.{nat_tests}
use Rattle.tb_geom.specs.declared.point.Point.{Point}
use Rattle.tb_geom.specs.declared.rect.Rect.{Rect}
use Rattle.tb_geom.specs.Points.{PixelSet, minus}
use Rattle.tb_geom.specs.Rects.{rect_holds, in_plane, is_coordinate}
use Rattle.bit_map.specs.Bits.{Bits, bit, on_map, is_below, bounds_of}
use Rattle.bit_map.proofs.BitsLemmas.{on_map-same}
use Rattle.std.specs.Prelude.{int_le}
use Rattle.std.proofs.lemmas.Bool.{and_parts}
use Rattle.bit_blit.specs.Draws.{Draws, IsWritten}
use Rattle.bit_blit.proofs.WrittenLemmas.{written_in}
use Rattle.bit_blit.proofs.DrawsLemmas.{Draws-same, Draws-on_map}
use Rattle.scan_region.specs.declared.cut.Cut.{Cut}
use Rattle.scan_region.specs.Cuts.{cut_holds}
use Rattle.def_iface.specs.declared.size.Size.{Size}
use Rattle.def_iface.specs.MenuMeaning.{MenuDefinition, IsMenuDamage, no_menu_news}
use Rattle.overlay.specs.Overlays.{Pulled, IsShown, pulled_rect, pulled_bit, is_menu_place}

-- bits that are copied from the same places
pub covered : (map base : Bits) (rect : Rect) (new : Bits) → map.width ≡ base.width → map.height ≡ base.height
    → Draws (rect_holds rect) (λ p old. if on_map base p then bit base p else old) map new
    → Draws (rect_holds rect) (λ p _. bit base p) map new
covered map base rect new w h drawn =
    Draws-same _ _ _ _ map new
    (λ p d on. ap (λ t. cond (rect_holds rect p) (if t then bit base p else d) d) (on_map-same map base p (sym w) (sym h) ∙ on))
    drawn

-- a cut that takes nothing away
abbrev pub whole : Cut
whole = record { inside = None ∷ None ∷ None ∷ []; outside = None }

nothing_cut : (b : Bool) → (b && ((true && (true && (true && true))) && not false)) ≡ b
nothing_cut true = refl
nothing_cut false = refl

pub uncut : (within : Rect) (f : PixelSet) (old new end : Bits) → end ≡ new
    → Draws (λ p. rect_holds within p && cut_holds whole p) (λ p _. f p) old new → Draws (rect_holds within) (λ p _. f p) old end
unfolding cut_holds
uncut within f old new end is drawn = rw is (Draws-same _ (rect_holds within) _ (λ p _. f p) old new (λ p d on. ap (λ t. cond t (f p) d) (nothing_cut (rect_holds within p))) drawn)

pub uncut_written : (within : Rect) (old new end : Bits) → end ≡ new → IsWritten (λ p. rect_holds within p && cut_holds whole p) old new → IsWritten (rect_holds within) old end
unfolding cut_holds
uncut_written within old new end is written = rw is (written_in _ (rect_holds within) old new (λ p on out. nothing_cut (rect_holds within p) ∙ out) written)

-- a copy of the base image shows it
pub copied_shows : (font : List ℕ) (base before new : Bits) (rect : Rect) → rect ≡ bounds_of base → before.width ≡ base.width → before.height ≡ base.height
    → ((p : Point) → on_map base p ≡ true → rect_holds rect p ≡ true)
    → Draws (rect_holds rect) (λ p _. bit base p) before new → IsShown font None base new
copied_shows font base before new rect sides w h all drawn = record {
  width = drawn.width ∙ w;
  height = drawn.height ∙ h;
  pixels = λ p on.
      let there : on_map before p ≡ true = sym (Draws-on_map _ _ before new drawn p) ∙ on in
      drawn.pixels p there ∙ ap (λ t. if t then bit base p else bit before p) (all p (sym (on_map-same base before p w h) ∙ there));
}

-- a menu that is drawn over it shows
pub pulled_shows : (font : List ℕ) (m : Pulled) (rect : Rect) (base old new : Bits) → rect ≡ pulled_rect m.place m.size
    → Draws (rect_holds rect) (λ p _. pulled_bit font m p) old new
    → IsShown font None base old → IsShown font (Some m) base new
pulled_shows font m rect base old new is drawn shown = record {
  width = drawn.width ∙ shown.width;
  height = drawn.height ∙ shown.height;
  pixels = λ p on.
      let there : on_map old p ≡ true = sym (Draws-on_map _ _ old new drawn p) ∙ on in
      drawn.pixels p there ∙ (λ i. if rect_holds (is i) p then pulled_bit font m p else shown.pixels p there i);
}

-- a pixel of a screen lies near a menu's place
seen : (h left : ℤ) (limit : ℕ) → is_below limit h ≡ true → limit ≤ 1024 → (int_le (pos 0) left && int_le left (pos 1024)) ≡ true → is_coordinate (h -ℤ left) ≡ true
seen (pos n) left limit on few at = grind (arith, ints, nat_tests)
seen (negsuc n) left limit on few at = absurd (cc)

seen_in_plane : (m : Bits) (place p : Point) → (m.width ≤ 1024) × (m.height ≤ 1024) → is_menu_place place ≡ true → on_map m p ≡ true → in_plane (minus p place) ≡ true
unfolding on_map
seen_in_plane m place p few at on =
    let o = and_parts _ _ on in let a = and_parts _ _ at in
    rw (seen p.h place.h m.width o.0 few.0 a.0) (seen p.v place.v m.height o.1 few.1 a.1)

-- a menu is drawn anew within the damage
pub redrawn_shows : (font : List ℕ) (m : Pulled) (old : MenuDefinition) (damage within : Rect) (base before after : Bits)
    → (before.width ≤ 1024) × (before.height ≤ 1024) → is_menu_place m.place ≡ true
    → ((p : Point) → rect_holds within p ≡ (rect_holds (pulled_rect m.place m.size) p && rect_holds damage (minus p m.place)))
    → Draws (rect_holds within) (λ p _. pulled_bit font m p) before after
    → IsMenuDamage damage old m.definition
    → IsShown font (Some (record m { definition = old })) base before → IsShown font (Some m) base after
redrawn_shows font m old damage within base before after few at where_is drawn same shown = record {
  width = drawn.width ∙ shown.width;
  height = drawn.height ∙ shown.height;
  pixels = λ p on.
      let there : on_map before p ≡ true = sym (Draws-on_map _ _ before after drawn p) ∙ on in
      let q = minus p m.place in
      drawn.pixels p there
      ∙ ap (λ t. if t then pulled_bit font m p else bit before p) (where_is p)
      ∙ ap (λ b. if rect_holds (pulled_rect m.place m.size) p && rect_holds damage q then pulled_bit font m p else b) (shown.pixels p there)
      ∙ table (rect_holds (pulled_rect m.place m.size) p) (rect_holds damage q) (pulled_bit font m p) (old.picture no_menu_news font m.menu q) (bit base p) (same font m.menu q (seen_in_plane before m.place p few at there));
}
  where
    table : (r d x y b : Bool) → (d ≡ false → x ≡ y) → (if r && d then x else (if r then y else b)) ≡ (if r then x else b)
    table true true x y b e = refl
    table true false x y b e = sym (e refl)
    table false d x y b e = refl

-- and nothing else is written
pub redrawn_written : (place : Point) (size : Size) (damage within : Rect) (before after : Bits)
    → ((p : Point) → rect_holds within p ≡ (rect_holds (pulled_rect place size) p && rect_holds damage (minus p place)))
    → IsWritten (rect_holds within) before after
    → IsWritten (λ p. rect_holds (pulled_rect place size) p && rect_holds damage (minus p place)) before after
redrawn_written place size damage within before after where_is written = written_in (rect_holds within) _ before after (λ p on out. where_is p ∙ out) written
