-- Where a text comes to stand, once its selection shows.
use Rattle.std.proofs.Common.{◌≡◌, Bool, true, false, ◌&&◌, refl, ap, ◌∙◌, ℤ, pos, ◌+ℤ◌, ◌-ℤ◌, arith}
use Rattle.std.specs.Prelude.{int_le, int_lt}
use Rattle.std.proofs.lemmas.Int.{ints}
use Rattle.text_record.specs.Changes.{may_scroll}
use Rattle.text_record.specs.Placings.{is_near}
use Rattle.text_record.specs.Places.{column_of}
use Rattle.text_record.specs.Showing.{across_into, down_into, right_by}
use Rattle.text_record.specs.Texts.{Record}

to_first : (l b f : ℤ) → (f -ℤ b) ≡ l +ℤ (f -ℤ (l +ℤ b))
to_first l b f = omega (arith, ints)

to_end : (l b e : ℤ) → ((e -ℤ pos 1) -ℤ b) ≡ l +ℤ (pos 0 -ℤ (((l +ℤ b) -ℤ e) +ℤ pos 1))
to_end l b e = omega (arith, ints)

stays : (l : ℤ) → l ≡ l +ℤ pos 0
stays l = omega (arith, ints)

pub across_before : (l b f e : ℤ) → int_lt (l +ℤ b) f ≡ true → (f -ℤ b) ≡ l +ℤ across_into (l +ℤ b) f e
across_before l b f e p = rw p (to_first l b f)

pub across_behind : (l b f e : ℤ) → int_lt (l +ℤ b) f ≡ false → int_le e (l +ℤ b) ≡ true → ((e -ℤ pos 1) -ℤ b) ≡ l +ℤ across_into (l +ℤ b) f e
across_behind l b f e p q = rw (p, q) (to_end l b e)

pub across_not : (l b f e : ℤ) → int_lt (l +ℤ b) f ≡ false → int_le e (l +ℤ b) ≡ false → l ≡ l +ℤ across_into (l +ℤ b) f e
across_not l b f e p q = rw (p, q) (stays l)

at_most : (x y : ℤ) → int_le x y ≡ true → int_lt y x ≡ false
at_most x y p = grind (arith, ints)

more : (x y : ℤ) → int_le x y ≡ false → int_lt y x ≡ true
more x y p = grind (arith, ints)

pub down_before : (l b h f e : ℤ) → int_lt (l +ℤ b) f ≡ true → (f -ℤ b) ≡ l +ℤ down_into (l +ℤ b) ((l +ℤ b) +ℤ h) f e
down_before l b h f e p = rw p (to_first l b f)

pub down_not : (l b h f e : ℤ) → int_lt (l +ℤ b) f ≡ false → int_le ((l +ℤ b) +ℤ h) e ≡ true → l ≡ l +ℤ down_into (l +ℤ b) ((l +ℤ b) +ℤ h) f e
down_not l b h f e p q = rw (p, at_most ((l +ℤ b) +ℤ h) e q) (stays l)

to_top : (l b f : ℤ) → (f -ℤ b) ≡ l +ℤ (pos 0 -ℤ ((l +ℤ b) -ℤ f))
to_top l b f = omega (arith, ints)

to_bottom : (l b h e : ℤ) → (e -ℤ (h +ℤ b)) ≡ l +ℤ (pos 0 -ℤ (((l +ℤ b) +ℤ h) -ℤ e))
to_bottom l b h e = omega (arith, ints)

pub down_to_top : (l b h f e : ℤ) → int_lt (l +ℤ b) f ≡ false → int_le ((l +ℤ b) +ℤ h) e ≡ false → int_lt ((l +ℤ b) -ℤ f) (((l +ℤ b) +ℤ h) -ℤ e) ≡ true → (f -ℤ b) ≡ l +ℤ down_into (l +ℤ b) ((l +ℤ b) +ℤ h) f e
down_to_top l b h f e p q s = rw (p, more ((l +ℤ b) +ℤ h) e q, s) (to_top l b f)

pub down_to_bottom : (l b h f e : ℤ) → int_lt (l +ℤ b) f ≡ false → int_le ((l +ℤ b) +ℤ h) e ≡ false → int_lt ((l +ℤ b) -ℤ f) (((l +ℤ b) +ℤ h) -ℤ e) ≡ false → (e -ℤ (h +ℤ b)) ≡ l +ℤ down_into (l +ℤ b) ((l +ℤ b) +ℤ h) f e
down_to_bottom l b h f e p q s = rw (p, more ((l +ℤ b) +ℤ h) e q, s) (to_bottom l b h e)

one_less : (l b : ℤ) → (l +ℤ (b -ℤ pos 1)) ≡ ((l +ℤ b) -ℤ pos 1)
one_less l b = omega (arith, ints)

-- the column before the selection's end, seen from the left of the destination
pub right_is : (r : Record) (left beside first end moved : ℤ) → left ≡ r.left → first ≡ r.view.left → end ≡ r.view.right → (r.left +ℤ beside) ≡ column_of r r.end
    → moved ≡ left +ℤ across_into (left +ℤ (beside -ℤ pos 1)) first end → moved ≡ r.left +ℤ right_by r
right_is r left beside first end moved a b c at m =
    let column = one_less r.left beside ∙ ap (λ z. z -ℤ pos 1) at in
    m ∙ (λ i. a i +ℤ across_into (a i +ℤ (beside -ℤ pos 1)) (b i) (c i)) ∙ ap (λ z. r.left +ℤ across_into z r.view.left r.view.right) column

neither : (a : Bool) → false ≡ (a && false)
neither true = refl
neither false = refl

pub not_down : (across down top : ℤ) (r : Record) → top ≡ r.top → false ≡ is_near (top +ℤ down) → false ≡ may_scroll across down r
not_down across down top r e f =
    neither (is_near (r.left +ℤ across)) ∙ ap (λ t. is_near (r.left +ℤ across) && t) (f ∙ ap (λ z. is_near (z +ℤ down)) e)
