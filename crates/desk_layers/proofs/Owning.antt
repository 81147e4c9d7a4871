-- Owners, and the windows and layers that they name.
use Rattle.std.proofs.Common.{◌≡◌, ℕ, Bool, true, false, ◌==◌, ◌&&◌, not, if◌then◌else◌, List, [], ◌∷◌, Option, None, Some, refl, sym, ◌∙◌, ap, eq-eqb, arith}
use Rattle.std.proofs.lemmas.Bool.{eqb-true, and_parts, not-true}
use Rattle.std.proofs.lemmas.Bool.Decides.{nat_tests}
use Rattle.tb_geom.specs.declared.point.Point.{Point}
use Rattle.desk_layers.specs.declared.part.Part.{Part}
use Rattle.desk_layers.specs.declared.part.Part.TheVariants as part
use Rattle.desk_layers.specs.Desk.{ContentLayer, LayeredWindow, LayeredDesk, in_structure, local, window_of, layer_of, same_part}
use Rattle.desk_layers.specs.Owner.{Owner, owner_among, owner_within, own_bit, same_owner}
use Rattle.desk_layers.specs.Owner.Owner.{Desktop, Bar, Frame, Content}

pub same_number : (n : ℕ) → (n == n) ≡ true
same_number n = eq-eqb n n refl

pub same_part-self : (a : Part) → same_part a a ≡ true
same_part-self part.Picture = refl
same_part-self (part.Control a) = same_number a
same_part-self (part.List a) = same_number a
same_part-self (part.Text a) = same_number a

pub same_part-true : (a b : Part) → same_part a b ≡ true → a ≡ b
same_part-true part.Picture part.Picture e = refl
same_part-true part.Picture (part.Control b) e = cc
same_part-true part.Picture (part.List b) e = cc
same_part-true (part.Control a) part.Picture e = cc
same_part-true (part.Control a) (part.Control b) e = ap part.Control (eqb-true a b e)
same_part-true (part.Control a) (part.List b) e = cc
same_part-true (part.List a) part.Picture e = cc
same_part-true (part.List a) (part.Control b) e = cc
same_part-true (part.List a) (part.List b) e = ap part.List (eqb-true a b e)
same_part-true part.Picture (part.Text b) e = cc
same_part-true (part.Control a) (part.Text b) e = cc
same_part-true (part.List a) (part.Text b) e = cc
same_part-true (part.Text a) part.Picture e = cc
same_part-true (part.Text a) (part.Control b) e = cc
same_part-true (part.Text a) (part.List b) e = cc
same_part-true (part.Text a) (part.Text b) e = ap part.Text (eqb-true a b e)

-- owners that test as the same are the same
pub same_owner-true : (o q : Owner) → same_owner o q ≡ true → o ≡ q
same_owner-true Desktop Desktop e = refl
same_owner-true Desktop Bar e = cc
same_owner-true Desktop (Frame t) e = cc
same_owner-true Desktop (Content t b) e = cc
same_owner-true Bar Desktop e = cc
same_owner-true Bar Bar e = refl
same_owner-true Bar (Frame t) e = cc
same_owner-true Bar (Content t b) e = cc
same_owner-true (Frame s) Desktop e = cc
same_owner-true (Frame s) Bar e = cc
same_owner-true (Frame s) (Frame t) e = ap Frame (eqb-true s t e)
same_owner-true (Frame s) (Content t b) e = cc
same_owner-true (Content s a) Desktop e = cc
same_owner-true (Content s a) Bar e = cc
same_owner-true (Content s a) (Frame t) e = cc
same_owner-true (Content s a) (Content t b) e =
    let both = and_parts _ _ e in
    λ i. Content (eqb-true s t both.0 i) (same_part-true a b both.1 i)

pub same_owner-self : (o : Owner) → same_owner o o ≡ true
same_owner-self Desktop = refl
same_owner-self Bar = refl
same_owner-self (Frame s) = same_number s
same_owner-self (Content s a) = λ i. same_number s i && same_part-self a i

-- a lookup whose first entry is another
pub not_first : {X : Type 0} (b : Bool) (x : X) (o : Option X) → (if b then Some x else o) ≡ None → (b ≡ false) × (o ≡ None)
not_first true x o e = absurd (cc)
not_first false x o e = (refl, e)

-- the owner is no layer of the window of this serial
abbrev pub is_other : ℕ → Owner → Bool
is_other s Desktop = true
is_other s Bar = true
is_other s (Frame t) = not (s == t)
is_other s (Content t part) = not (s == t)

other_within : (s : ℕ) (w : LayeredWindow) (ls : List ContentLayer) (p : Point) → (w.serial == s) ≡ false → is_other s (owner_within w ls p) ≡ true
other_within s w [] p e = grind (arith, nat_tests)
other_within s w (l ∷ ls) p e = one (l.extent (local w p)) (owner_within w ls p) (other_within s w ls p e)
  where
    one : (b : Bool) (o : Owner) → is_other s o ≡ true → is_other s (if b then Content w.serial l.part else o) ≡ true
    one true o k = grind (arith, nat_tests)
    one false o k = k

either_other : (s : ℕ) (b : Bool) (o q : Owner) → is_other s o ≡ true → is_other s q ≡ true → is_other s (if b then o else q) ≡ true
either_other s true o q k n = k
either_other s false o q k n = n

-- a serial that no window has owns no pixel
pub owner_is_other : (ws : List LayeredWindow) (p : Point) (s : ℕ) → window_of s ws ≡ None → is_other s (owner_among ws p) ≡ true
owner_is_other [] p s e = refl
owner_is_other (w ∷ ws) p s e =
    let n = not_first (w.serial == s) w (window_of s ws) e in
    either_other s (in_structure w p) _ _ (other_within s w w.layers p n.0) (owner_is_other ws p s n.1)

-- a window in front changes no value of the owners that are none of its layers
pub own_bit-behind : (desk : LayeredDesk) (w : LayeredWindow) (ws : List LayeredWindow) (p : Point) (o : Owner) → is_other w.serial o ≡ true → own_bit (record desk { windows = w ∷ ws }) o p ≡ own_bit (record desk { windows = ws }) o p
own_bit-behind desk w ws p Desktop e = refl
own_bit-behind desk w ws p Bar e = refl
own_bit-behind desk w ws p (Frame s) e = rw (not-true (w.serial == s) e) refl
own_bit-behind desk w ws p (Content s part) e = rw (not-true (w.serial == s) e) refl

-- a layer behind the first is found where it was
pub layer_of-behind : (l found : ContentLayer) (ls : List ContentLayer) (part : Part) → layer_of l.part ls ≡ None → layer_of part ls ≡ Some found → layer_of part (l ∷ ls) ≡ Some found
layer_of-behind l found ls part none e = by_test (same_part l.part part) refl
  where
    by_test : (b : Bool) → same_part l.part part ≡ b → (if b then Some l else layer_of part ls) ≡ Some found
    by_test true t =
        let gone : layer_of part ls ≡ None = ap (λ a. layer_of a ls) (sym (same_part-true l.part part t)) ∙ none in
        absurd (cc)
    by_test false t = e
