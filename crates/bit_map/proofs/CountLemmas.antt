-- How often the pixels of a map were written, point by point.
use Rattle.std.proofs.Common.{◌≡◌, ℕ, suc, ◌+◌, ◌*◌, ◌/◌, ◌%◌, ◌<◌, ◌≤ℤ◌, ◌+ℤ◌, ◌-ℤ◌, ℤ, pos, negsuc, nat_abs, Bool, true, false, cond, List, [], get_or, refl, sym, ap, ◌∙◌, arith}
use Rattle.std.proofs.lemmas.Int.{ints}
use Rattle.std.proofs.lemmas.List.FromFn.{get_or-map-range_with_len}
use Rattle.std.proofs.lemmas.Nat.{mul-add-lt, div-mul-add, mod-mul-add}
use Rattle.tb_geom.specs.declared.point.Point.{Point}
use Rattle.tb_geom.specs.Points.{PixelSet}
use Rattle.bit_map.specs.Bits.{Bits, on_map, count, is_point, in_row}
use Rattle.bit_map.specs.Counts.{counts_of, raised}
use Rattle.bit_map.proofs.BitsLemmas.{IsOn, on_map-sides, on_map-same, is_point-is}

-- the number of a pixel of the map
place_in_rows : (m : Bits) (p : Point) → IsOn m p → nat_abs p.v * m.width + nat_abs p.h < m.height * m.width
place_in_rows m p at = omega (arith, mul-add-lt (nat_abs p.v) m.width (nat_abs p.h) m.height at.down at.across)

-- a map whose numbers are those of a list
count-on : (m : Bits) (numbers : List ℕ) (p : Point) → m.counts ≡ counts_of m.width m.height numbers → on_map m p ≡ true
    → count m p ≡ get_or numbers (nat_abs p.v * m.width + nat_abs p.h) 0
unfolding count counts_of
count-on m numbers p is on =
    ap (λ b. cond b (get_or m.counts i 0) 0) on
    ∙ ap (λ l. get_or l i 0) is
    ∙ get_or-map-range_with_len (λ n. get_or numbers n 0) 0 (m.height * m.width) i i 0 (place_in_rows m p (on_map-sides m p on)) (omega arith)
  where
    i : ℕ
    i = nat_abs p.v * m.width + nat_abs p.h

count-off : (m : Bits) (p : Point) → on_map m p ≡ false → count m p ≡ 0
unfolding count
count-off m p off = ap (λ b. cond b (get_or m.counts (nat_abs p.v * m.width + nat_abs p.h) 0) 0) off

-- a map of which no pixel was written
pub count-none : (m : Bits) (numbers : List ℕ) → m.counts ≡ counts_of m.width m.height numbers → numbers ≡ [] → (p : Point) → count m p ≡ 0
count-none m numbers is none p = by_place (on_map m p) refl
  where
    by_place : (t : Bool) → on_map m p ≡ t → count m p ≡ 0
    by_place true on = count-on m numbers p is on ∙ ap (λ l. get_or l (nat_abs p.v * m.width + nat_abs p.h) 0) none
    by_place false off = count-off m p off

number_is : (x : ℤ) → pos 0 ≤ℤ x → pos (nat_abs x) ≡ x
number_is (pos n) low = refl
number_is (negsuc n) low = absurd (omega (arith, ints))

-- the numbers of a map after a write of the pixels of a set, all of them on the map
pub count-raised : (a b : Bits) (old new : List ℕ) (holds : PixelSet) → a.counts ≡ counts_of a.width a.height old → b.counts ≡ counts_of b.width b.height new
    → new ≡ raised a.width a.height holds old → b.width ≡ a.width → b.height ≡ a.height → ((p : Point) → holds p ≡ true → on_map a p ≡ true)
    → (p : Point) → count b p ≡ cond (holds p) (count a p + 1) (count a p)
unfolding raised
count-raised a b old new holds of_a of_b written width height within p = by_place (on_map a p) refl
  where
    at : ℕ → Point → ℕ
    at w q = nat_abs q.v * w + nat_abs q.h

    more : (t : Bool) (n : ℕ) → cond t (suc n) n ≡ cond t (n + 1) n
    more true n = omega arith
    more false n = refl

    here : IsOn a p → get_or (raised a.width a.height holds old) (at a.width p) 0 ≡ cond (holds p) (suc (get_or old (at a.width p) 0)) (get_or old (at a.width p) 0)
    here on =
        let h = ap pos (mod-mul-add (nat_abs p.v) a.width (nat_abs p.h) on.across) ∙ number_is p.h on.right in
        let v = ap pos (div-mul-add (nat_abs p.v) a.width (nat_abs p.h) on.across) ∙ number_is p.v on.below in
        get_or-map-range_with_len _ 0 (a.height * a.width) (at a.width p) (at a.width p) 0 (place_in_rows a p on) (omega arith)
        ∙ (λ i. cond (holds (record { h = h i; v = v i })) (suc (get_or old (at a.width p) 0)) (get_or old (at a.width p) 0))

    outside : (t : Bool) → holds p ≡ t → on_map a p ≡ false → t ≡ false
    outside false e off = refl
    outside true e off = absurd (cc (within p e, off))

    on : on_map a p ≡ true → count b p ≡ cond (holds p) (count a p + 1) (count a p)
    on e =
        count-on b new p of_b (on_map-same a b p width height ∙ e)
        ∙ (λ i. get_or (written i) (at (width i) p) 0)
        ∙ here (on_map-sides a p e)
        ∙ more (holds p) (get_or old (at a.width p) 0)
        ∙ ap (λ n. cond (holds p) (n + 1) n) (sym (count-on a old p of_a e))

    by_place : (t : Bool) → on_map a p ≡ t → count b p ≡ cond (holds p) (count a p + 1) (count a p)
    by_place true e = on e
    by_place false e =
        count-off b p (on_map-same a b p width height ∙ e) ∙ sym (count-off a p e)
        ∙ ap (λ t. cond t (count a p + 1) (count a p)) (sym (outside (holds p) refl e))

-- after a write of a run of a row
pub count-run : (a b : Bits) (old new : List ℕ) (v left right : ℤ) (count_of : ℕ) → a.counts ≡ counts_of a.width a.height old → b.counts ≡ counts_of b.width b.height new
    → new ≡ raised a.width a.height (in_row v left (left +ℤ pos count_of)) old → pos count_of ≡ right -ℤ left → b.width ≡ a.width → b.height ≡ a.height
    → ((p : Point) → in_row v left right p ≡ true → on_map a p ≡ true)
    → (p : Point) → count b p ≡ cond (in_row v left right p) (count a p + 1) (count a p)
count-run a b old new v left right count_of of_a of_b written long width height within =
    let end : (left +ℤ pos count_of) ≡ right = omega (arith, ints, long) in
    count-raised a b old new (in_row v left right) of_a of_b (written ∙ ap (λ r. raised a.width a.height (in_row v left r) old) end) width height within

-- the pixels of one column of a row are a point
one_column : (q p : Point) → in_row q.v q.h (q.h +ℤ pos 1) p ≡ is_point q p
one_column q p = grind (arith, ints)

-- after a write of one pixel
pub count-set : (a b : Bits) (old new : List ℕ) (q : Point) → a.counts ≡ counts_of a.width a.height old → b.counts ≡ counts_of b.width b.height new
    → new ≡ raised a.width a.height (in_row q.v q.h (q.h +ℤ pos 1)) old → b.width ≡ a.width → b.height ≡ a.height → on_map a q ≡ true
    → (p : Point) → count b p ≡ cond (is_point q p) (count a p + 1) (count a p)
count-set a b old new q of_a of_b written width height on p =
    count-raised a b old new (in_row q.v q.h (q.h +ℤ pos 1)) of_a of_b written width height (λ x e. ap (on_map a) (is_point-is q x (sym (one_column q x) ∙ e)) ∙ on) p
    ∙ ap (λ t. cond t (count a p + 1) (count a p)) (one_column q p)

-- no pixel of a row that does not rise
none_in : (v left right : ℤ) (p : Point) → right ≤ℤ left → in_row v left right p ≡ false
none_in v left right p low = grind (arith, ints)

pub count-no_run : (a : Bits) (v left right : ℤ) (p : Point) → right ≤ℤ left → count a p ≡ cond (in_row v left right p) (count a p + 1) (count a p)
count-no_run a v left right p low = ap (λ t. cond t (count a p + 1) (count a p)) (sym (none_in v left right p low))

-- the numbers of a map are those of its list
pub counts-of : (m : Bits) (width height : ℕ) {black : List Bool} (numbers : List ℕ) → record { width = width; height = height; black = black; counts = counts_of width height numbers } ≡ m → m.counts ≡ counts_of m.width m.height numbers
counts-of m width height numbers e = ap (λ (n : Bits). n.counts) (sym e) ∙ (λ i. counts_of ((e i).width) ((e i).height) numbers)
