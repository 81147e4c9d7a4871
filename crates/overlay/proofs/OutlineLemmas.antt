-- The lines of an outline, inverted one after another.
use Rattle.std.proofs.Common.{◌≡◌, ℕ, ◌+◌, ◌<◌, Bool, true, false, not, ◌&&◌, ◌||◌, if◌then◌else◌, List, [], ◌∷◌, length, get_or, drop, ℤ, ◌<ℤ◌, None, refl, sym, ap, ◌∙◌, subst, arith}
use Rattle.std.specs.Prelude.{int_lt}
use Rattle.std.specs.Int.{int_max}
use Rattle.std.proofs.lemmas.Int.{ints, clamps}
use Rattle.std.proofs.lemmas.List.{drop_more}
use Rattle.tb_geom.specs.declared.point.Point.{Point}
use Rattle.tb_geom.specs.declared.rect.Rect.{Rect}
use Rattle.tb_geom.specs.Points.{PixelSet}
use Rattle.tb_geom.specs.Rects.{between, rect_holds}
use Rattle.bit_map.specs.Bits.{Bits, bit, on_map}
use Rattle.bit_map.specs.Modes.{xor_bit}
use Rattle.bit_map.specs.Patterns.{pattern_bit, gray}
use Rattle.bit_blit.specs.Draws.{Draws}
use Rattle.bit_blit.proofs.DrawsLemmas.{Draws-more, Draws-none, Draws-on_map}
use Rattle.def_iface.specs.Lines.{AreApart, line_holds}
use Rattle.overlay.specs.Outlines.{IsOutlined, outline_holds, outlined}
use Rattle.overlay.specs.Overlays.{IsShown}

-- ---- lines that are inverted

-- the old bit, inverted where gray is black
abbrev pub inverted : Point → Bool → Bool
inverted p old = xor_bit (pattern_bit gray p) old

-- a line without its pixels on the menu bar
abbrev pub below_bar : ℤ → Rect → Rect
below_bar bar r = record r { top = int_max r.top bar }

pub with_top : (line : Rect) (top other : ℤ) → top ≡ other → record line { top = top } ≡ record line { top = other }
with_top line top other is = ap (λ t. record line { top = t }) is

rows_below : (top v bottom bar : ℤ) → between (int_max top bar) v bottom ≡ (between top v bottom && not (int_lt v bar))
rows_below top v bottom bar = grind (arith, ints, clamps)

grouped : (a b n : Bool) → (a && (b && n)) ≡ ((a && b) && n)
grouped true b n = refl
grouped false b n = refl

holds_below : (bar : ℤ) (r : Rect) (p : Point) → rect_holds (below_bar bar r) p ≡ (rect_holds r p && not (int_lt p.v bar))
holds_below bar r p =
    ap (λ b. between r.left p.h r.right && b) (rows_below r.top p.v r.bottom bar)
    ∙ grouped (between r.left p.h r.right) (between r.top p.v r.bottom) (not (int_lt p.v bar))

beside : (a b n t : Bool) → t ≡ (a && n) → (a ≡ true → b ≡ false) → (b && n) ≡ true → t ≡ false
beside true true n t is out e = absurd (cc (out refl))
beside true false n t is out e = absurd (cc)
beside false b n t is out e = is

either : (a b n t : Bool) → t ≡ (a && n) → ((a || b) && n) ≡ ((b && n) || t)
either true true true t is = refl
either true false true t is = sym is
either true true false t is = sym is
either true false false t is = sym is
either false true true t is = refl
either false false true t is = sym is
either false true false t is = sym is
either false false false t is = sym is

-- a line, and then the others of an outline
first_inverted : (bar : ℤ) (r : Rect) (rs : List Rect) (a b c : Bits) → AreApart (r ∷ rs) → Draws (rect_holds (below_bar bar r)) inverted a b
    → Draws (outline_holds bar rs) inverted b c → Draws (outline_holds bar (r ∷ rs)) inverted a c
first_inverted bar r rs a b c apart first rest =
    Draws-more (rect_holds (below_bar bar r)) (outline_holds bar rs) (outline_holds bar (r ∷ rs)) inverted a b c
    (λ p e. beside (rect_holds r p) (line_holds rs p) (not (int_lt p.v bar)) (rect_holds (below_bar bar r) p) (holds_below bar r p) (apart.0 p) e)
    (λ p. either (rect_holds r p) (line_holds rs p) (not (int_lt p.v bar)) (rect_holds (below_bar bar r) p) (holds_below bar r p))
    first rest

-- of an outline that is drawn on a map, the lines from the k-th on are left
pub record AreLeft (bar : ℤ) (lines : List Rect) (k : ℕ) (old now : Bits) : Type 0 where
  pub apart : AreApart (drop k lines)
  pub rest : (end : Bits) → Draws (outline_holds bar (drop k lines)) inverted now end → Draws (outline_holds bar lines) inverted old end

pub next_left : (bar : ℤ) (lines : List Rect) (k : ℕ) (line below : Rect) (old now new : Bits) → k < length lines → below ≡ below_bar bar (get_or lines k line)
    → AreLeft bar lines k old now → Draws (rect_holds below) inverted now new → AreLeft bar lines (k + 1) old new
next_left bar lines k line below old now new here is left drawn =
    let more : drop k lines ≡ get_or lines k line ∷ drop (k + 1) lines = drop_more lines k line here in
    let apart : AreApart (get_or lines k line ∷ drop (k + 1) lines) = subst AreApart more left.apart in
    record {
      apart = apart.1;
      rest = λ end others. left.rest end (subst (λ ls. Draws (outline_holds bar ls) inverted now end) (sym more)
          (first_inverted bar (get_or lines k line) (drop (k + 1) lines) now new end apart (subst (λ r. Draws (rect_holds r) inverted now new) is drawn) others));
    }

pub none_left : (bar : ℤ) (lines : List Rect) (k : ℕ) (old now : Bits) → drop k lines ≡ [] → AreLeft bar lines k old now
    → Draws (outline_holds bar lines) inverted old now
none_left bar lines k old now none left =
    left.rest now (subst (λ ls. Draws (outline_holds bar ls) inverted now now) (sym none) (Draws-none (outline_holds bar []) inverted now (λ p on. refl)))

-- ---- what an outline changes

pub shows_beside : (bar : ℤ) (lines : List Rect) (base : PixelSet) (p : Point) → line_holds lines p ≡ false → outlined bar lines base p ≡ base p
shows_beside bar lines base p out = ap (λ l. if l && not (int_lt p.v bar) then inverted p (base p) else base p) out

is_before : (v bar : ℤ) → v <ℤ bar → int_lt v bar ≡ true
is_before v bar low = grind (arith, ints)

none_there : (l x b : Bool) → (if l && not true then x else b) ≡ b
none_there true x b = refl
none_there false x b = refl

pub shows_bar : (bar : ℤ) (lines : List Rect) (base : PixelSet) (p : Point) → p.v <ℤ bar → outlined bar lines base p ≡ base p
shows_bar bar lines base p low =
    ap (λ t. if line_holds lines p && not t then inverted p (base p) else base p) (is_before p.v bar low)
    ∙ none_there (line_holds lines p) (inverted p (base p)) (base p)

pub shows_again : (bar : ℤ) (lines : List Rect) (base : PixelSet) (p : Point) → outlined bar lines (outlined bar lines base) p ≡ base p
shows_again bar lines base p = table (outline_holds bar lines p) (pattern_bit gray p) (base p)
  where
    table : (h g b : Bool) → (if h then xor_bit g (if h then xor_bit g b else b) else (if h then xor_bit g b else b)) ≡ b
    table true true true = refl
    table true true false = refl
    table true false b = refl
    table false g b = refl

-- ---- the map in front

-- an outline that is drawn over the base image shows
pub outline_shows : (font : List ℕ) (bar : ℤ) (lines : List Rect) (base old new : Bits) → IsShown font None base old
    → Draws (outline_holds bar lines) inverted old new → IsOutlined bar lines base new
outline_shows font bar lines base old new shown drawn = record {
  width = drawn.width ∙ shown.width;
  height = drawn.height ∙ shown.height;
  pixels = λ p on.
      let there : on_map old p ≡ true = sym (Draws-on_map _ _ old new drawn p) ∙ on in
      drawn.pixels p there ∙ ap (λ b. if outline_holds bar lines p then inverted p b else b) (shown.pixels p there);
}

-- one that is drawn again is gone
pub outline_gone : (font : List ℕ) (bar : ℤ) (lines : List Rect) (base old new : Bits) → IsOutlined bar lines base old
    → Draws (outline_holds bar lines) inverted old new → IsShown font None base new
outline_gone font bar lines base old new shown drawn = record {
  width = drawn.width ∙ shown.width;
  height = drawn.height ∙ shown.height;
  pixels = λ p on.
      let there : on_map old p ≡ true = sym (Draws-on_map _ _ old new drawn p) ∙ on in
      drawn.pixels p there
      ∙ ap (λ b. if outline_holds bar lines p then inverted p b else b) (shown.pixels p there)
      ∙ shows_again bar lines (bit base) p;
}
