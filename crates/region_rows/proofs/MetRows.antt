-- Rows of points that turn some columns, and rows of pixels that have one in them.
use Rattle.std.proofs.Common.{◌≡◌, ◌⊎◌, ℕ, zero, suc, ◌+◌, ◌-◌, ◌<◌, ◌≤◌, Bool, true, false, not, ◌&&◌, List, [], ◌∷◌, ◌++◌, length, get_or, take, drop, map, ℤ, pos, ◌-ℤ◌, ◌<ℤ◌, ◌≤ℤ◌, refl, sym, ap, ◌∙◌, subst, inl, inr, arith}
use Rattle.std.specs.Prelude.{int_le}
use Rattle.std.specs.List.{All}
use Rattle.std.proofs.lemmas.Int.{ints, by_lt_z}
use Rattle.std.proofs.lemmas.Bool.{cases_lt, true≢false}
use Rattle.std.proofs.lemmas.List.{get_or-take, get_or-drop, get_or-map, length-map, get_or_default, length-take-le, length-drop, take_all, take-append-drop}
use Rattle.std.proofs.lemmas.List.Elements.{All-drop}
use Rattle.tb_geom.specs.declared.point.Point.{Point}
use Rattle.tb_geom.specs.declared.rect.Rect.{Rect}
use Rattle.tb_geom.specs.Rects.{rect_holds}
use Rattle.tb_geom.proofs.RectLemmas.{holds_in, sides_of}
use Rattle.region_bytes.specs.Points.{ArePointRows, in_rows, top_of}
use Rattle.region_bytes.proofs.Boxed.{row_turns}
use Rattle.region_bytes.proofs.Edges.{int_le-true, int_le-false, is_odd-more, left_out, rising_tail}
use Rattle.region_bytes.proofs.Rows.{canonical_tail, past_rows}
use Rattle.region_rows.specs.Cursor.{IsCount}
use Rattle.region_rows.specs.Edges.{differ, inside, is_odd, IsRising}
use Rattle.region_rows.specs.Hull.{row_in}
use Rattle.region_rows.specs.Meets.{HasBetween, HasTurn}
use Rattle.region_rows.specs.Rows.{EdgeRow}
use Rattle.region_rows.proofs.Above.{in_rows-append, none_above}

-- ---- one row of points

-- so many points up to a column, and no other, say whether it is in
pub count_in : (xs : List ℤ) (n : ℕ) (h : ℤ) → IsRising xs → n ≤ length xs → ((k : ℕ) → k < n → get_or xs k (pos 0) ≤ℤ h) → (n < length xs → h <ℤ get_or xs n (pos 0)) → inside xs h ≡ is_odd n
unfolding inside is_odd
count_in [] zero h r w before after = refl
count_in [] (suc n) h r w before after = absurd (omega arith)
count_in (x ∷ xs) zero h r w before after = left_out x h xs r (after (omega arith))
count_in (x ∷ xs) (suc n) h r w before after =
    λ i. differ (int_le-true x h (before zero (omega arith)) i) (count_in xs n h (rising_tail x xs r) (omega arith) (λ k l. before (suc k) (omega arith)) (λ l. after (omega arith)) i)

-- the first column is in
pub first_between : (xs : List ℤ) (n : ℕ) (left right : ℤ) → IsRising xs → left <ℤ right → IsCount xs n left → is_odd n ≡ true → HasBetween left right (inside xs)
first_between xs n left right r order c odd =
    record { h = left; from = omega (arith, ints); to = order; here = count_in xs n left r c.counted.within c.counted.before c.ahead ∙ odd }

-- or the next point comes in time
pub next_between : (xs : List ℤ) (n : ℕ) (left right : ℤ) → IsRising xs → IsCount xs n left → is_odd n ≡ false → n < length xs → get_or xs n (pos 0) <ℤ right → HasBetween left right (inside xs)
next_between xs n left right r c even there before =
    let x : ℤ = get_or xs n (pos 0) in
    let past = c.ahead there in
    record {
      h = x;
      from = omega (arith, ints);
      to = before;
      here =
          count_in xs (n + 1) x r (omega arith)
          (λ k l. elim (cases_lt k n) [ inl m ↦ (let up = r.rises k n m there in omega (arith, ints)) | inr m ↦ (let e : k ≡ n = omega arith in let same : get_or xs k (pos 0) ≡ x = ap (λ q. get_or xs q (pos 0)) e in omega (arith, ints)) ])
          (λ l. r.rises n (n + 1) (omega arith) l)
          ∙ is_odd-more n ∙ ap not even;
    }

-- and else none is
pub none_between : (xs : List ℤ) (n : ℕ) (left right : ℤ) → IsRising xs → IsCount xs n left → is_odd n ≡ false → (n < length xs → right ≤ℤ get_or xs n (pos 0)) → HasBetween left right (inside xs) → ⊥
none_between xs n left right r c even after s =
    let from = s.from in
    let to = s.to in
    true≢false (sym s.here ∙ count_in xs n s.h r c.counted.within (λ k l. let b = c.counted.before k l in omega (arith, ints)) (λ l. let a = after l in omega (arith, ints)) ∙ even)

-- a column of a row that has none there is out
pub out_between : (left right : ℤ) (f : ℤ → Bool) → (HasBetween left right f → ⊥) → (h : ℤ) → left ≤ℤ h → h <ℤ right → f h ≡ false
out_between left right f none h from to = by (f h) refl
  where
    by : (b : Bool) → f h ≡ b → b ≡ false
    by true e = absurd (none (record { h = h; from = from; to = to; here = e }))
    by false e = refl

-- ---- rows that turn none of the columns

-- the rows after a row of points that turns none
pub passed_over : (rest : List EdgeRow) (row : EdgeRow) (left right : ℤ) → 1 ≤ length rest → row ≡ get_or rest 0 row → (HasBetween left right (inside row.1) → ⊥) → (h v : ℤ) → left ≤ℤ h → h <ℤ right → in_rows (drop 1 rest) h v ≡ in_rows rest h v
unfolding in_rows
passed_over [] row left right l e none h v from to = absurd (omega arith)
passed_over (r ∷ rest) row left right l e none h v from to =
    sym ((λ i. differ (int_le r.0 v && (ap (λ (q : EdgeRow). inside q.1 h) (sym e) ∙ out_between left right (inside row.1) none h from to) i) (in_rows rest h v))
    ∙ ap (λ b. differ b (in_rows rest h v)) (and-none (int_le r.0 v)))
  where
    and-none : (b : Bool) → (b && false) ≡ false
    and-none true = refl
    and-none false = refl

-- those after the first
pub others : (rest : List EdgeRow) → take (length rest - 1) (drop 1 rest) ≡ drop 1 rest
others rest = take_all (length rest - 1) (drop 1 rest) (let e = length-drop 1 rest in omega arith)

pub passed_others : (rest : List EdgeRow) (row : EdgeRow) (left right : ℤ) → 1 ≤ length rest → row ≡ get_or rest 0 row → (HasBetween left right (inside row.1) → ⊥) → (h v : ℤ) → left ≤ℤ h → h <ℤ right → in_rows (take (length rest - 1) (drop 1 rest)) h v ≡ in_rows rest h v
passed_others rest row left right l e none h v from to = ap (λ rows. in_rows rows h v) (others rest) ∙ passed_over rest row left right l e none h v from to

pub all_others : (P : EdgeRow → Type 0) (rest : List EdgeRow) → All P rest → All P (take (length rest - 1) (drop 1 rest))
all_others P rest all = subst (All P) (sym (others rest)) (All-drop P 1 rest all)

-- and so above a row, where none turns one
pub unturned : (rows : List EdgeRow) (bottom left right : ℤ) → (HasTurn rows bottom left right → ⊥) → (h v : ℤ) → left ≤ℤ h → h <ℤ right → v <ℤ bottom → in_rows rows h v ≡ false
unfolding in_rows
unturned [] bottom left right none h v from to up = refl
unturned (row ∷ rows) bottom left right none h v from to up =
    let rest : in_rows rows h v ≡ false = unturned rows bottom left right (λ t. none (record { row = suc t.row; there = (let l = t.there in omega arith); above = t.above; turns = t.turns })) h v from to up in
    by_lt_z v row.0
    (λ m. (λ i. differ (int_le-false row.0 v m i && inside row.1 h) (rest i)))
    (λ m. (λ i. differ (int_le-true row.0 v m i && out_between left right (inside row.1) (λ t. none (record { row = 0; there = omega arith; above = omega (arith, ints); turns = t })) h from to i) (rest i)))

-- one of the rows turns a column
pub turn_found : (rows : List EdgeRow) (i : ℕ) (row : EdgeRow) (bottom left right : ℤ) → i < length rows → row ≡ get_or rows i row → row.0 <ℤ bottom → HasBetween left right (inside row.1) → HasTurn rows bottom left right
turn_found rows i row bottom left right l e up t =
    let same : row ≡ row_in rows i = e ∙ get_or_default rows i row (pos 0, []) l in
    record { row = i; there = l; above = subst (λ (r : EdgeRow). r.0 <ℤ bottom) same up; turns = subst (λ (r : EdgeRow). HasBetween left right (inside r.1)) same t }

-- the next one turns none either
pub turn_passed : (rows : List EdgeRow) (i : ℕ) (row : EdgeRow) (left right : ℤ) → i < length rows → row ≡ get_or rows i row → ((k : ℕ) → k < i → HasBetween left right (inside (row_in rows k).1) → ⊥) → (HasBetween left right (inside row.1) → ⊥) → (k : ℕ) → k < i + 1 → HasBetween left right (inside (row_in rows k).1) → ⊥
turn_passed rows i row left right l e before none k m t =
    elim (cases_lt k i) [
      | inl w ↦ before k w t
      | inr w ↦
          let at : k ≡ i = omega arith in
          none (subst (λ (r : EdgeRow). HasBetween left right (inside r.1)) (ap (row_in rows) at ∙ sym (e ∙ get_or_default rows i row (pos 0, []) l)) t)
    ]

-- ---- rows of points above a row of pixels, and those below

-- each row lies below those before it
pub rows_rise : (rows : List EdgeRow) (i k : ℕ) → ArePointRows rows → i < k → k < length rows → (row_in rows i).0 <ℤ (row_in rows k).0
rows_rise rows i k r l m =
    let long : length (map top_of rows) ≡ length rows = length-map rows top_of in
    let up = r.rising.rises i k l (omega arith) in
    let first : get_or (map top_of rows) i (pos 0) ≡ (row_in rows i).0 = get_or-map top_of rows i (pos 0, []) (pos 0) (omega arith) in
    let second : get_or (map top_of rows) k (pos 0) ≡ (row_in rows k).0 = get_or-map top_of rows k (pos 0, []) (pos 0) m in
    omega (arith, ints)

-- where a row lies too low, none from there on turns a column in time
pub turn_none : (rows : List EdgeRow) (i : ℕ) (row : EdgeRow) (bottom left right : ℤ) → ArePointRows rows → i < length rows → row ≡ get_or rows i row → bottom ≤ℤ row.0 → ((k : ℕ) → k < i → HasBetween left right (inside (row_in rows k).1) → ⊥) → HasTurn rows bottom left right → ⊥
turn_none rows i row bottom left right r l e low before t =
    let above = t.above in
    let there = t.there in
    let here : row.0 ≡ (row_in rows i).0 = ap (λ (q : EdgeRow). q.0) (e ∙ get_or_default rows i row (pos 0, []) l) in
    elim (cases_lt t.row i) [
      | inl w ↦ before t.row w t.turns
      | inr w ↦ elim (cases_lt i t.row) [
        | inl m ↦ (let up = rows_rise rows i t.row r m there in absurd (omega (arith, ints)))
        | inr m ↦ (let at : t.row ≡ i = omega arith in let same = ap (λ q. (row_in rows q).0) at in absurd (omega (arith, ints)))
      ]
    ]

-- those after the first n
pub rows_after : (n : ℕ) (rows : List EdgeRow) → ArePointRows rows → ArePointRows (drop n rows)
rows_after zero rows r = r
rows_after (suc n) [] r = r
rows_after (suc n) (row ∷ rows) r = rows_after n rows (canonical_tail row rows r)

-- the rows up to a row, and those below it
pub record IsParted (rows upper lower : List EdgeRow) (top : ℤ) : Type 0 where
  pub whole : upper ++ lower ≡ rows
  pub above : All (λ row. row.0 ≤ℤ top) upper
  pub below : All (λ row. top <ℤ row.0) lower

pub parted : (rows : List EdgeRow) (n : ℕ) (top : ℤ) → ArePointRows rows → n ≤ length rows → ((k : ℕ) → k < n → (row_in rows k).0 ≤ℤ top) → (n < length rows → top <ℤ (row_in rows n).0) → IsParted rows (take n rows) (drop n rows) top
parted rows n top r within up down =
    record {
      whole = take-append-drop n rows;
      above = λ k d l.
          let m : k < n = subst (λ q. k < q) (length-take-le n rows within) l in
          subst (λ (row : EdgeRow). row.0 ≤ℤ top) (sym (get_or-take n rows k d m ∙ same rows k d (omega arith))) (up k m);
      below = λ k d l.
          let m : k < length rows - n = subst (λ q. k < q) (length-drop n rows) l in
          subst (λ (row : EdgeRow). top <ℤ row.0) (sym (get_or-drop n rows k d ∙ same rows (n + k) d (omega arith))) (lower k m);
    }
  where
    same : (rows : List EdgeRow) (k : ℕ) (d : EdgeRow) → k < length rows → get_or rows k d ≡ row_in rows k
    same rows k d l = get_or_default rows k d (pos 0, []) l

    zero_more : (n : ℕ) → n ≡ n + zero
    zero_more n = omega arith

    lower : (k : ℕ) → k < length rows - n → top <ℤ (row_in rows (n + k)).0
    lower zero m = subst (λ q. top <ℤ (row_in rows q).0) (zero_more n) (down (omega arith))
    lower (suc k) m = let first = down (omega arith) in let up = rows_rise rows n (n + suc k) r (omega arith) (omega arith) in omega (arith, ints)

-- ---- a pixel of the rectangle

-- where the lower rows turn a column, it is in there or above
one_in : (a b u w l m : Bool) → a ≡ differ u l → b ≡ differ w m → w ≡ u → l ≡ differ true m → (a ≡ true) ⊎ (b ≡ true)
one_in a b true w l true e f g t = inl (e ∙ ap not t)
one_in a b true w l false e f g t = inr (f ∙ ap (λ z. differ z false) g)
one_in a b false w l true e f g t = inr (f ∙ ap (λ z. differ z true) g)
one_in a b false w l false e f g t = inl (e ∙ t)

module _ (rows upper lower turning : List EdgeRow) (r : Rect) (s : IsParted rows upper lower r.top) (same : (h v : ℤ) → r.left ≤ℤ h → h <ℤ r.right → in_rows turning h v ≡ in_rows upper h v) (down : r.top <ℤ r.bottom) where
  both : (h v : ℤ) → in_rows rows h v ≡ differ (in_rows upper h v) (in_rows lower h v)
  both h v = ap (λ l. in_rows l h v) (sym s.whole) ∙ in_rows-append upper lower h v

  -- one in the first row
  pub met_first : HasBetween r.left r.right (λ h. in_rows turning h r.top) → (p : Point) × (in_rows rows p.h p.v ≡ true) × (rect_holds r p ≡ true)
  met_first t =
      let p : Point = record { h = t.h; v = r.top } in (
        p,
        both t.h r.top ∙ (λ i. differ ((sym (same t.h r.top t.from t.to) ∙ t.here) i) (none_above lower t.h r.top s.below i)),
        holds_in r p t.from t.to (omega (arith, ints)) down,
      )

  -- one where a row below turns a column, or above that
  pub met_below : ArePointRows lower → HasTurn lower r.bottom r.left r.right → (p : Point) × (in_rows rows p.h p.v ≡ true) × (rect_holds r p ≡ true)
  met_below good t =
      let h = t.turns.h in
      let v : ℤ = (row_in lower t.row).0 in
      let low : r.top <ℤ v = s.below t.row (pos 0, []) t.there in
      let up = t.above in
      let p : Point = record { h = h; v = v } in
      let q : Point = record { h = h; v = v -ℤ pos 1 } in
      let turned = row_turns lower t.row h good t.there ∙ ap (λ b. differ b (in_rows lower h (v -ℤ pos 1))) t.turns.here in
      let steady = past_rows upper h (v -ℤ pos 1) v (λ k d l. let a = s.above k d l in omega (arith, ints)) (omega (arith, ints)) in
      elim (one_in (in_rows rows h v) (in_rows rows h (v -ℤ pos 1)) (in_rows upper h v) (in_rows upper h (v -ℤ pos 1)) (in_rows lower h v) (in_rows lower h (v -ℤ pos 1)) (both h v) (both h (v -ℤ pos 1)) steady turned) [
        | inl e ↦ (p, e, holds_in r p t.turns.from t.turns.to (omega (arith, ints)) up)
        | inr e ↦ (q, e, holds_in r q t.turns.from t.turns.to (omega (arith, ints)) (omega (arith, ints)))
      ]

  -- and else none
  pub met_none : (HasBetween r.left r.right (λ h. in_rows turning h r.top) → ⊥) → (HasTurn lower r.bottom r.left r.right → ⊥) → (p : Point) → in_rows rows p.h p.v ≡ true → rect_holds r p ≡ true → ⊥
  met_none first below p here within =
      let t = sides_of r p within in
      let up = t.top in
      let out : in_rows upper p.h r.top ≡ false = sym (same p.h r.top t.left t.right) ∙ out_between r.left r.right (λ h. in_rows turning h r.top) first p.h t.left t.right in
      let steady = past_rows upper p.h r.top p.v s.above up in
      true≢false (sym here ∙ both p.h p.v ∙ (λ i. differ ((sym steady ∙ out) i) (unturned lower r.bottom r.left r.right below p.h p.v t.left t.right t.bottom i)))

-- ---- a row that is asked column by column

pub still_on : (left h next : ℤ) → left ≤ℤ h → h <ℤ next → left ≤ℤ next
still_on left h next on past = omega (arith, ints)

-- up to the next column at which a row turns, the columns are as the one that was asked
pub still_none : (rows : List EdgeRow) (v left h next : ℤ) → ((z : ℤ) → left ≤ℤ z → z <ℤ h → in_rows rows z v ≡ false) → in_rows rows h v ≡ false
    → ((z w : ℤ) → h ≤ℤ z → z <ℤ next → in_rows rows z w ≡ in_rows rows h w) → (z : ℤ) → left ≤ℤ z → z <ℤ next → in_rows rows z v ≡ false
still_none rows v left h next out none steady z from to = by_lt_z z h (λ before. out z from before) (λ after. steady z v after to ∙ none)
