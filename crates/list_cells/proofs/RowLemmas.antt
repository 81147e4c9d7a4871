-- Rows of cells, widened and narrowed.
use Rattle.std.proofs.Common.{◌≡◌, ℕ, zero, suc, ◌+◌, ◌*◌, ◌-◌, ◌≤◌, ◌<◌, List, ◌++◌, length, take, drop, replicate, refl, sym, ap, ◌∙◌, subst, arith, append_assoc, length-append, length-drop, add-one}
use Rattle.std.proofs.Math.Seq.{drop-length, take-length}
use Rattle.std.proofs.Math.Nat.{suc-mul, zero-mul, mul-le-mul_right}
use Rattle.std.proofs.lemmas.List.{take-append-drop, take-append-le, drop-append-le, drop-drop, append-nil}
use Rattle.std.proofs.lemmas.Grind.{common_steps}
use Rattle.list_cells.specs.Contents.{Content, empty_content, opened, closed, passed, in_rows}

take_length : (n : ℕ) (xs : List Content) → n ≤ length xs → length (take n xs) ≡ n
take_length n xs l = grind (arith, common_steps)

-- a list in three parts
pub record IsSplit (xs : List Content) (at width : ℕ) : Type 0 where
  pub is : xs ≡ take at (take width xs) ++ (drop at (take width xs) ++ drop width xs)
  pub first : length (take at (take width xs)) ≡ at
  pub second : length (drop at (take width xs)) + at ≡ width

pub split_of : (xs : List Content) (at width : ℕ) → at ≤ width → width ≤ length xs → IsSplit xs at width
split_of xs at width a w =
    let len : length (take width xs) ≡ width = take_length width xs w in
    record {
      is = sym (take-append-drop width xs) ∙ ap (λ ys. ys ++ drop width xs) (sym (take-append-drop at (take width xs))) ∙ append_assoc (take at (take width xs)) (drop at (take width xs)) (drop width xs);
      first = take_length at (take width xs) (omega arith);
      second = omega (arith, length-drop at (take width xs));
    }

-- of a list whose first part has this length
pub take_first : (xs ys : List Content) (n : ℕ) → length xs ≡ n → take n (xs ++ ys) ≡ xs
take_first xs ys n e = grind (arith, common_steps)

pub drop_first : (xs ys : List Content) (n : ℕ) → length xs ≡ n → drop n (xs ++ ys) ≡ ys
drop_first xs ys n e = grind (arith, common_steps)

-- the first part of a list goes behind all and some cells behind it, and then the second part
turned_open : (a b c e xs ys zs ws : List Content) (at rest : ℕ) → length a ≡ at → length b ≡ rest → xs ≡ a ++ (b ++ c) → ys ≡ drop at xs ++ take at xs
    → zs ≡ ys ++ e → ws ≡ drop rest zs ++ take rest zs → ws ≡ c ++ (a ++ (e ++ b))
turned_open a b c e xs ys zs ws at rest la lb x y z w =
    let y' : ys ≡ (b ++ c) ++ a = y ∙ ap (λ l. drop at l ++ take at l) x ∙ (λ i. drop_first a (b ++ c) at la i ++ take_first a (b ++ c) at la i) in
    let z' : zs ≡ b ++ (c ++ (a ++ e)) = z ∙ ap (λ l. l ++ e) y' ∙ simp append_assoc in
    w ∙ ap (λ l. drop rest l ++ take rest l) z' ∙ (λ i. drop_first b (c ++ (a ++ e)) rest lb i ++ take_first b (c ++ (a ++ e)) rest lb i) ∙ simp append_assoc

pub passes_open : (xs ys zs ws : List Content) (width at n : ℕ) → at ≤ width → width ≤ length xs → ys ≡ drop at xs ++ take at xs
    → zs ≡ ys ++ replicate n empty_content → ws ≡ drop (width - at) zs ++ take (width - at) zs → ws ≡ passed width (opened at n) xs
unfolding passed opened
passes_open xs ys zs ws width at n a w y z e =
    let s : IsSplit xs at width = split_of xs at width a w in
    turned_open (take at (take width xs)) (drop at (take width xs)) (drop width xs) (replicate n empty_content) xs ys zs ws at (width - at)
    s.first (omega (arith, s.second)) s.is y z e

-- the first part of a list goes behind all, the second is dropped, and the third goes behind all
turned_closed : (a k b c xs ys zs ts ws : List Content) (at n rest : ℕ) → length a ≡ at → length k ≡ n → length b ≡ rest → xs ≡ a ++ ((k ++ b) ++ c)
    → ys ≡ drop at xs ++ take at xs → zs ≡ drop n ys ++ take n ys → ts ≡ take (length zs - n) zs → ws ≡ drop rest ts ++ take rest ts → ws ≡ c ++ (a ++ b)
turned_closed a k b c xs ys zs ts ws at n rest la lk lb x y z t w =
    let y' : ys ≡ k ++ ((b ++ c) ++ a) = y ∙ ap (λ l. drop at l ++ take at l) x ∙ (λ i. drop_first a ((k ++ b) ++ c) at la i ++ take_first a ((k ++ b) ++ c) at la i) ∙ simp append_assoc in
    let z' : zs ≡ ((b ++ c) ++ a) ++ k = z ∙ ap (λ l. drop n l ++ take n l) y' ∙ (λ i. drop_first k ((b ++ c) ++ a) n lk i ++ take_first k ((b ++ c) ++ a) n lk i) in
    let long : length zs - n ≡ length ((b ++ c) ++ a) = omega (arith, ap length z', length-append ((b ++ c) ++ a) k, lk) in
    let t' : ts ≡ b ++ (c ++ a) = t ∙ (λ i. take (long i) (z' i)) ∙ take_first ((b ++ c) ++ a) k (length ((b ++ c) ++ a)) refl ∙ append_assoc b c a in
    w ∙ ap (λ l. drop rest l ++ take rest l) t' ∙ (λ i. drop_first b (c ++ a) rest lb i ++ take_first b (c ++ a) rest lb i) ∙ append_assoc c a b

pub passes_closed : (xs ys zs ts ws : List Content) (width at n : ℕ) → at + n ≤ width → width ≤ length xs → ys ≡ drop at xs ++ take at xs
    → zs ≡ drop n ys ++ take n ys → ts ≡ take (length zs - n) zs → ws ≡ drop (width - at - n) ts ++ take (width - at - n) ts → ws ≡ passed width (closed at n) xs
unfolding passed closed
passes_closed xs ys zs ts ws width at n a w y z t e =
    let s : IsSplit xs at width = split_of xs at width (omega arith) w in
    let first = take width xs in
    let rest : drop n (drop at first) ≡ drop (at + n) first = drop-drop-add first at n in
    let len : length (drop at first) ≡ width - at = omega (arith, s.second) in
    turned_closed (take at first) (take n (drop at first)) (drop (at + n) first) (drop width xs) xs ys zs ts ws at n (width - at - n)
    s.first (take_length n (drop at first) (omega (arith, len))) (ap length (sym rest) ∙ omega (arith, length-drop n (drop at first), len))
    (s.is ∙ ap (λ l. take at first ++ (l ++ drop width xs)) (sym (take-append-drop n (drop at first)) ∙ ap (λ l. take n (drop at first) ++ l) rest)) y z t e
  where
    drop-drop-add : (l : List Content) (i j : ℕ) → drop j (drop i l) ≡ drop (i + j) l
    drop-drop-add l i j = grind (arith, common_steps)

in_rows_suc : (width : ℕ) (change : List Content → List Content) (i : ℕ) (xs : List Content) → in_rows width change (suc i) xs ≡ in_rows width change i xs ++ change (take width (drop (i * width) xs))
unfolding in_rows
in_rows_suc width change zero xs = append-nil (change (take width xs)) ∙ ap (λ n. change (take width (drop n xs))) (sym (zero-mul width))
in_rows_suc width change (suc i) xs =
    let far : drop (i * width) (drop width xs) ≡ drop (suc i * width) xs = drop-drop (i * width) width xs ∙ ap (λ n. drop n xs) (omega (arith, suc-mul i width)) in
    ap (λ ys. change (take width xs) ++ ys) (in_rows_suc width change i (drop width xs) ∙ ap (λ ys. in_rows width change i (drop width xs) ++ change (take width ys)) far)
    ∙ sym (append_assoc (change (take width xs)) (in_rows width change i (drop width xs)) (change (take width (drop (suc i * width) xs))))

-- the first rows changed and behind all, and one row more
pub passes_on : (width : ℕ) (change : List Content → List Content) (i rows : ℕ) (all now next : List Content) → i < rows → length all ≡ rows * width
    → now ≡ drop (i * width) all ++ in_rows width change i all → next ≡ passed width change now → next ≡ drop ((i + 1) * width) all ++ in_rows width change (i + 1) all
unfolding passed
passes_on width change i rows all now next low len now_is next_is =
    let d = drop (i * width) all in
    let r = in_rows width change i all in
    let one : i + 1 ≡ suc i = add-one i in
    let more : suc i * width ≡ i * width + width = suc-mul i width in
    let within : i * width + width ≤ length all = subst (λ n. n ≤ length all) more (subst (λ n. suc i * width ≤ n) (sym len) (mul-le-mul_right width (subst (λ n. n ≤ rows) one (omega arith)))) in
    let long : width ≤ length d = omega (arith, length-drop (i * width) all) in
    let on : drop width d ≡ drop ((i + 1) * width) all = drop-drop width (i * width) all ∙ ap (λ n. drop n all) (sym more ∙ ap (λ n. n * width) (sym one)) in
    let rest : r ++ change (take width d) ≡ in_rows width change (i + 1) all = sym (in_rows_suc width change i all) ∙ ap (λ n. in_rows width change n all) (sym one) in
    next_is ∙ ap (λ ys. drop width ys ++ change (take width ys)) now_is
    ∙ (λ j. drop-append-le width d r long j ++ change (take-append-le width d r long j))
    ∙ append_assoc (drop width d) r (change (take width d)) ∙ (λ j. on j ++ rest j)

-- all rows
pub passes_all : (width : ℕ) (change : List Content → List Content) (rows : ℕ) (all now : List Content) → length all ≡ rows * width
    → now ≡ drop (rows * width) all ++ in_rows width change rows all → now ≡ in_rows width change rows all
passes_all width change rows all now len now_is =
    now_is ∙ ap (λ n. drop n all ++ in_rows width change rows all) (sym len) ∙ ap (λ ys. ys ++ in_rows width change rows all) (drop-length all)

-- no row
pub passes_none : (width : ℕ) (change : List Content → List Content) (all : List Content) → all ≡ drop (zero * width) all ++ in_rows width change zero all
unfolding in_rows
passes_none width change all = ap (λ n. drop n all) (sym (zero-mul width)) ∙ sym (append-nil (drop (zero * width) all))

-- all cells of a width that is theirs
pub passes_whole : (change : List Content → List Content) (xs : List Content) (width : ℕ) → width ≡ length xs → passed width change xs ≡ change xs
unfolding passed
passes_whole change xs width e = ap (λ n. drop n xs ++ change (take n xs)) e ∙ (λ i. drop-length xs i ++ change (take-length xs i))
