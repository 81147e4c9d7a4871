-- Where a menu lies, and that one without items lies nowhere.
use Rattle.std.proofs.Common.{◌≡◌, ℕ, false, ◌&&◌, if◌then◌else◌, List, [], Some, ℤ, pos, ◌+ℤ◌, ◌≤ℤ◌, ap, ◌∙◌, arith}
use Rattle.std.proofs.lemmas.Int.{ints, clamps}
use Rattle.tb_geom.specs.declared.point.Point.{Point}
use Rattle.tb_geom.specs.Points.{PixelSet}
use Rattle.tb_geom.specs.Rects.{rect_holds, between}
use Rattle.def_iface.specs.declared.size.Size.{Size}
use Rattle.overlay.specs.Overlays.{Pulled, pulled_rect, pulled_bit, shown_bit}
use Rattle.overlay.specs.Places.{pulled_place, shown_size, size_with}

none_between : (x h : ℤ) → between x h (x +ℤ pos 0) ≡ false
none_between x h = grind (arith, ints)

-- no pixel lies in a rectangle without a column
pub nothing_shown : (font : List ℕ) (m : Pulled) (size : Size) (base : PixelSet) (p : Point)
    → m.menu.items ≡ [] → m.size ≡ shown_size m.menu size → shown_bit font (Some m) base p ≡ base p
nothing_shown font m size base p none is =
    let e : m.size ≡ record { width = pos 0; height = pos 0 } = is ∙ ap (λ items. size_with items size) none in
    ap (λ s. if rect_holds (pulled_rect m.place s) p then pulled_bit font m p else base p) e
    ∙ ap (λ t. if t && between m.place.v p.v (m.place.v +ℤ pos 0) then pulled_bit font m p else base p) (none_between m.place.h p.h)

pub stays_on_screen : (width left : ℤ) (size : Size) → size.width ≤ℤ width → ((pulled_place width left size).h +ℤ size.width) ≤ℤ width
stays_on_screen width left size fits = omega (arith, ints, clamps)

pub stays_at_title : (width left : ℤ) (size : Size) → pos 0 ≤ℤ left → (left +ℤ size.width) ≤ℤ width → (pulled_place width left size).h ≡ left
stays_at_title width left size after fits = omega (arith, ints, clamps)
