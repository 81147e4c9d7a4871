-- An icon on a canvas, and where two icons differ.
use Rattle.std.proofs.Common.{◌≡◌, ℤ, pos, negsuc, ◌-ℤ◌, ◌≤ℤ◌, Bool, true, false, not, cond, ◌&&◌, refl, sym, ap, ◌∙◌, arith, w32, SFits, to_z, of_z}
use Rattle.std.specs.Prelude.{nat_abs}
use Rattle.std.specs.Int.{int_max}
use Rattle.std.specs.Ordering.{int_eq}
use Rattle.std.specs.Str.{bytes_eq}
use Rattle.std.proofs.lemmas.Int.{ints, to_z-of_z}
use Rattle.std.proofs.lemmas.Bool.{and_parts}
use Rattle.std.proofs.lemmas.Bool.Decides.{Decides-int_eq}
use Rattle.std.proofs.lemmas.Slice.Eq.{bytes_eq-Decides}
use Rattle.tb_geom.specs.declared.point.Point.{Point}
use Rattle.tb_geom.specs.Points.{minus}
use Rattle.tb_geom.specs.Rects.{between, rect_holds}
use Rattle.bit_map.specs.Bits.{Bits, is_below}
use Rattle.bit_map.specs.Images.{Image, image_holds, image_bit}
use Rattle.bit_map.specs.Modes.{mode_bit}
use Rattle.bit_map.specs.Patterns.{pattern_bit}
use Rattle.bit_map.specs.declared.mode.Mode.TheVariants.{Copy}
use Rattle.bit_blit.specs.Draws.{Draws}
use Rattle.draw_port.specs.Canvases.{canvas_holds, canvas_point, SameFrame}
use Rattle.draw_port.specs.declared.canvas.Canvas.{Canvas}
use Rattle.draw_port.proofs.OverLemmas.{Draws-canvas-over, equal_rows, white_everywhere}
use Rattle.def_iface.specs.declared.control_keeping.KeptControl.{KeptControl}
use Rattle.def_iface.specs.declared.size.Size.{Size}
use Rattle.def_iface.specs.ControlMeaning.{is_control_size, is_control_extent}
use Rattle.std_cdef.specs.Icons.{icon_image, icon_bit, icon_damaged, is_same_icon, around_sizes}

-- the corner of an icon
abbrev pub corner : Point
corner = record { h = pos 0; v = pos 0 }

from-corner : (p : Point) → minus p corner ≡ p
from-corner p = λ i. record { h = less-none p.h i; v = less-none p.v i }
  where
    less-none : (x : ℤ) → x -ℤ pos 0 ≡ x
    less-none x = grind (arith, ints)

-- an image on white is the icon
pub icon-drawn : (c d : Canvas) (k : KeptControl) (image : Image) (first middle last : Bits) → SameFrame c d → image ≡ icon_image k
    → Draws (canvas_holds c) (λ p old. mode_bit Copy (pattern_bit (equal_rows 0) (canvas_point c p)) old) first middle
    → Draws (λ p. canvas_holds d p && image_holds image (minus (canvas_point d p) corner)) (λ p old. mode_bit Copy (image_bit image (minus (canvas_point d p) corner)) old) middle last
    → Draws (canvas_holds c) (λ p _. icon_bit k (canvas_point c p)) first last
unfolding icon_bit
icon-drawn c d k image first middle last same e drawn over =
    Draws-canvas-over c d (λ p. image_holds image (minus p corner)) (icon_bit k) _ _ first middle last same
    (λ p old. (λ i. cond (image_holds (e i) (from-corner (canvas_point c p) i)) (image_bit (e i) (from-corner (minus p (same.origin i)) i)) (white_everywhere (canvas_point c p) i)) ∙ by_test (image_holds (icon_image k) (canvas_point c p)) (image_bit (icon_image k) (canvas_point c p)))
    drawn over
  where
    by_test : (a b : Bool) → cond a b false ≡ (a && b)
    by_test true b = refl
    by_test false b = refl

-- the same image in the same size looks the same
pub same-icon : (old new : KeptControl) → is_same_icon old new ≡ true → (p : Point) → icon_bit new p ≡ icon_bit old p
unfolding icon_bit is_same_icon
same-icon old new e p =
    let w = and_parts (int_eq old.size.width new.size.width) (int_eq old.size.height new.size.height && bytes_eq old.title new.title) e in
    let h = and_parts (int_eq old.size.height new.size.height) (bytes_eq old.title new.title) w.1 in
    let width = (Decides-int_eq old.size.width new.size.width).0 w.0 in
    let height = (Decides-int_eq old.size.height new.size.height).0 h.0 in
    let rows = (bytes_eq-Decides old.title new.title).0 h.1 in
    sym (λ i. image_holds (record { width = nat_abs (width i); height = nat_abs (height i); rows = rows i }) p && image_bit (record { width = nat_abs (width i); height = nat_abs (height i); rows = rows i }) p)

-- a side of a control is a number of 32 bits
side-fits : (w : ℤ) → is_control_extent w ≡ true → SFits w32 w
side-fits (pos n) e = grind (arith, ints)
side-fits (negsuc n) e = absurd (cc)

-- so each of its sides comes back from there
pub sides-back : (s : Size) → is_control_size s ≡ true → (nat_abs (to_z w32 (of_z w32 s.width)) ≡ nat_abs s.width) × (nat_abs (to_z w32 (of_z w32 s.height)) ≡ nat_abs s.height)
sides-back s e =
    let sides = and_parts (is_control_extent s.width) (is_control_extent s.height) e in
    (ap nat_abs (to_z-of_z w32 s.width (side-fits s.width sides.0)), ap nat_abs (to_z-of_z w32 s.height (side-fits s.height sides.1)))

-- a place of a side lies before the end of a longer one
below-between : (w end x : ℤ) → is_control_extent w ≡ true → w ≤ℤ end → is_below (nat_abs w) x ≡ true → between (pos 0) x end ≡ true
below-between w end (pos n) e longer below = grind (arith, ints)
below-between w end (negsuc n) e longer below = absurd (cc)

off : (a b : Bool) → (a ≡ true → b ≡ true) → b ≡ false → a ≡ false
off true b within out = sym (within refl) ∙ out
off false b within out = refl

both : (a b : Bool) → a ≡ true → b ≡ true → (a && b) ≡ true
both a b e f = ap (λ t. t && b) e ∙ f

-- outside a rectangle that reaches further than its size an icon is white
pub icon-outside : (k : KeptControl) (right bottom : ℤ) → is_control_size k.size ≡ true → k.size.width ≤ℤ right → k.size.height ≤ℤ bottom → (p : Point)
    → (between (pos 0) p.h right && between (pos 0) p.v bottom) ≡ false → icon_bit k p ≡ false
unfolding icon_bit image_holds
icon-outside k right bottom sized wide high p out =
    let sides = and_parts (is_control_extent k.size.width) (is_control_extent k.size.height) sized in
    ap (λ t. t && image_bit (icon_image k) p) (off (is_below (nat_abs k.size.width) p.h && is_below (nat_abs k.size.height) p.v) (between (pos 0) p.h right && between (pos 0) p.v bottom) (within sides) out)
  where
    within : is_control_extent k.size.width ≡ true × is_control_extent k.size.height ≡ true → (is_below (nat_abs k.size.width) p.h && is_below (nat_abs k.size.height) p.v) ≡ true
        → (between (pos 0) p.h right && between (pos 0) p.v bottom) ≡ true
    within sides e =
        let parts = and_parts (is_below (nat_abs k.size.width) p.h) (is_below (nat_abs k.size.height) p.v) e in
        both (between (pos 0) p.h right) (between (pos 0) p.v bottom) (below-between k.size.width right p.h sides.0 wide parts.0) (below-between k.size.height bottom p.v sides.1 high parts.1)

-- so two icons are alike outside the rectangle around both sizes
pub icons-outside : (old new : KeptControl) → is_control_size old.size ≡ true → is_control_size new.size ≡ true → (p : Point)
    → rect_holds (around_sizes old.size new.size) p ≡ false → icon_bit new p ≡ icon_bit old p
icons-outside old new was is p out =
    icon-outside new (int_max old.size.width new.size.width) (int_max old.size.height new.size.height) is (second old.size.width new.size.width) (second old.size.height new.size.height) p out
    ∙ sym (icon-outside old (int_max old.size.width new.size.width) (int_max old.size.height new.size.height) was (first old.size.width new.size.width) (first old.size.height new.size.height) p out)
  where
    first : (a b : ℤ) → a ≤ℤ int_max a b
    first a b = grind (arith, ints)

    second : (a b : ℤ) → b ≤ℤ int_max a b
    second a b = grind (arith, ints)

-- and a pixel of it may be drawn anew where they are not the same
pub icons-damaged : (old new : KeptControl) → is_same_icon old new ≡ false → (p : Point) → rect_holds (around_sizes old.size new.size) p ≡ true → icon_damaged old new p ≡ true
icons-damaged old new differ p e = by_test (is_control_size old.size) (is_same_icon old new) (rect_holds (around_sizes old.size new.size) p) differ e
  where
    by_test : (sized same inside : Bool) → same ≡ false → inside ≡ true → cond sized (not same && inside) true ≡ true
    by_test true true inside d e = absurd (cc)
    by_test true false inside d e = e
    by_test false same inside d e = refl
