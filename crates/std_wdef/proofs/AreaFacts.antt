-- Structure, content and box of the standard windows.
use Rattle.std.proofs.Common.{◌≡◌, Bool, true, false, ◌&&◌, if◌then◌else◌, ℤ, pos, negsuc, ◌+ℤ◌, ◌-ℤ◌, ◌<ℤ◌, refl, sym, ap, ◌∙◌, arith}
use Rattle.std.proofs.lemmas.Int.{ints}
use Rattle.tb_geom.specs.declared.rect.Rect.{Rect}
use Rattle.tb_geom.specs.Rects.{rect_holds, IsBoxOf}
use Rattle.tb_geom.proofs.RectLemmas.{IsInside, sides_of, holds_in}
use Rattle.def_iface.specs.declared.size.Size.{Size}
use Rattle.def_iface.specs.Sizes.{is_size, is_extent, rect_of}
use Rattle.def_iface.specs.WindowMeaning.{IsWithin}
use Rattle.looks.specs.Areas.{area_holds}
use Rattle.looks.specs.Marks.{box}
use Rattle.looks.proofs.AreaLemmas.{box-by-corners}
use Rattle.std_wdef.specs.declared.kind.Variation.{Variation}
use Rattle.std_wdef.specs.declared.kind.Variation.TheVariants.{Document, Dialog, Plain, Shadow, NoGrow, Zoom}
use Rattle.std_wdef.specs.Kinds.{has_size_box}
use Rattle.std_wdef.specs.Looks.{ring, document_box, shadow_box, size_box}
use Rattle.std_wdef.specs.Areas.{structure_of, content_of, structure_box}

-- the sides of a size
pub record IsSome (s : Size) : Type 0 where
  pub across : pos 0 <ℤ s.width
  pub down : pos 0 <ℤ s.height

pub size_some : (s : Size) → is_size s ≡ true → IsSome s
size_some s e = both (is_extent s.width) (is_extent s.height) refl refl e
  where
    extent-some : (n : ℤ) → is_extent n ≡ true → pos 0 <ℤ n
    extent-some n e = grind (arith, ints)

    both : (a b : Bool) → is_extent s.width ≡ a → is_extent s.height ≡ b → (a && b) ≡ true → IsSome s
    both true true u v e = record { across = extent-some s.width u; down = extent-some s.height v }
    both true false u v e = absurd (cc)
    both false b u v e = absurd (cc)

-- one rectangle alone
pub one-is : (b : Bool) → (if b then true else false) ≡ b
one-is true = refl
one-is false = refl

-- a rectangle whose sides rise has its first and its last pixel
pub first_of : (r : Rect) → r.left <ℤ r.right → r.top <ℤ r.bottom → rect_holds r (record { h = r.left; v = r.top }) ≡ true
first_of r a b = holds_in r (record { h = r.left; v = r.top }) (omega (arith, ints)) (omega (arith, ints)) (omega (arith, ints)) (omega (arith, ints))

pub last_of : (r : Rect) → r.left <ℤ r.right → r.top <ℤ r.bottom → rect_holds r (record { h = r.right -ℤ pos 1; v = r.bottom -ℤ pos 1 }) ≡ true
last_of r a b = holds_in r (record { h = r.right -ℤ pos 1; v = r.bottom -ℤ pos 1 }) (omega (arith, ints)) (omega (arith, ints)) (omega (arith, ints)) (omega (arith, ints))

-- the exact box of one rectangle
one-box : (r : Rect) → r.left <ℤ r.right → r.top <ℤ r.bottom → IsBoxOf r (λ p. if rect_holds r p then true else false)
one-box r a b = box-by-corners r _ (λ p e. sym (one-is (rect_holds r p)) ∙ e) (one-is _ ∙ first_of r a b) (one-is _ ∙ last_of r a b)

-- the box of the structure is exact
pub exact : (v : Variation) (s : Size) → is_size s ≡ true → IsBoxOf (structure_box v s) (area_holds (structure_of v s))
exact Plain s e = let n = size_some s e in one-box (ring 1 s) (omega (arith, ints)) (omega (arith, ints))
exact Dialog s e = let n = size_some s e in one-box (ring 8 s) (omega (arith, ints)) (omega (arith, ints))
exact Document s e = let n = size_some s e in one-box (document_box s) (omega (arith, ints)) (omega (arith, ints))
exact NoGrow s e = let n = size_some s e in one-box (document_box s) (omega (arith, ints)) (omega (arith, ints))
exact Zoom s e = let n = size_some s e in one-box (document_box s) (omega (arith, ints)) (omega (arith, ints))
exact Shadow s e =
    let n = size_some s e in
    let a : Rect = ring 1 s in
    let b : Rect = box (pos 1) (pos 1) (s.width +ℤ pos 3) (s.height +ℤ pos 3) in
    box-by-corners (shadow_box s) _
    (λ p e. either (rect_holds b p) (rect_holds a p) e
    (λ t. let k = sides_of b p t in holds_in (shadow_box s) p (omega (arith, ints)) (omega (arith, ints)) (omega (arith, ints)) (omega (arith, ints)))
    (λ t. let k = sides_of a p t in holds_in (shadow_box s) p (omega (arith, ints)) (omega (arith, ints)) (omega (arith, ints)) (omega (arith, ints))))
    (first (rect_holds b (record { h = negsuc 0; v = negsuc 0 })) _ (first_of a (omega (arith, ints)) (omega (arith, ints))))
    (ap (λ t. if t then true else (if rect_holds a (record { h = s.width +ℤ pos 3 -ℤ pos 1; v = s.height +ℤ pos 3 -ℤ pos 1 }) then true else false)) (last_of b (omega (arith, ints)) (omega (arith, ints))))
  where
    either : (x y : Bool) → (if x then true else (if y then true else false)) ≡ true → {P : Type 0} → (x ≡ true → P) → (y ≡ true → P) → P
    either true y e f g = f refl
    either false true e f g = g refl
    either false false e f g = absurd (cc)

    first : (x y : Bool) → y ≡ true → (if x then true else (if y then true else false)) ≡ true
    first true y e = refl
    first false y e = one-is y ∙ e

-- the content lies in the structure
pub within : (v : Variation) (s : Size) → IsWithin (area_holds (content_of v s)) (area_holds (structure_of v s))
within v s p e =
    let k = sides_of (rect_of s) p (content_in (has_size_box v && rect_holds (size_box s) p) (rect_holds (rect_of s) p) e) in
    first_in v k
  where
    content_in : (x y : Bool) → (if x then false else (if y then true else false)) ≡ true → y ≡ true
    content_in true y e = absurd (cc)
    content_in false y e = sym (one-is y) ∙ e

    later : (x y : Bool) → y ≡ true → (if x then true else (if y then true else false)) ≡ true
    later true y e = refl
    later false y e = one-is y ∙ e

    first_in : (v : Variation) → IsInside (rect_of s) p → area_holds (structure_of v s) p ≡ true
    first_in Plain k = one-is _ ∙ holds_in (ring 1 s) p (omega (arith, ints)) (omega (arith, ints)) (omega (arith, ints)) (omega (arith, ints))
    first_in Dialog k = one-is _ ∙ holds_in (ring 8 s) p (omega (arith, ints)) (omega (arith, ints)) (omega (arith, ints)) (omega (arith, ints))
    first_in Document k = one-is _ ∙ holds_in (document_box s) p (omega (arith, ints)) (omega (arith, ints)) (omega (arith, ints)) (omega (arith, ints))
    first_in NoGrow k = one-is _ ∙ holds_in (document_box s) p (omega (arith, ints)) (omega (arith, ints)) (omega (arith, ints)) (omega (arith, ints))
    first_in Zoom k = one-is _ ∙ holds_in (document_box s) p (omega (arith, ints)) (omega (arith, ints)) (omega (arith, ints)) (omega (arith, ints))
    first_in Shadow k = later (rect_holds (box (pos 1) (pos 1) (s.width +ℤ pos 3) (s.height +ℤ pos 3)) p) _ (holds_in (ring 1 s) p (omega (arith, ints)) (omega (arith, ints)) (omega (arith, ints)) (omega (arith, ints)))
