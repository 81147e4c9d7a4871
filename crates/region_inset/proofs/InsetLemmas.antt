-- Insets row by row, where they lie, and what decides whether they lie in range.
use Rattle.std.proofs.Common.{◌≡◌, Bool, true, false, ◌&&◌, inl, inr, ℤ, pos, negsuc, ◌+ℤ◌, ◌-ℤ◌, ◌≤ℤ◌, ◌<ℤ◌, refl, sym, ap, ◌∙◌, subst, arith}
use Rattle.std.proofs.lemmas.Bool.{and_left, and_right, cases_Bool, true≢false}
use Rattle.std.proofs.lemmas.Int.{ints}
use Rattle.tb_geom.specs.declared.point.Point.{Point}
use Rattle.tb_geom.specs.declared.rect.Rect.{Rect}
use Rattle.tb_geom.specs.Points.{PixelSet}
use Rattle.tb_geom.specs.Rects.{between, rect_holds}
use Rattle.pixel_rows.specs.declared.columns.Columns.{Columns}
use Rattle.pixel_rows.specs.Columns.{has_column, IsSteady}
use Rattle.pixel_rows.specs.Combined.{means}
use Rattle.region_inset.specs.Near.{narrowed, narrows, reach, widening}
use Rattle.region_inset.specs.Insets.{inset, inset_columns, joining}
use Rattle.region_inset.proofs.NearLemmas.{IsJoined, joined, joined_first, joined_more, joined_steady, narrowed_from, narrowed_joined, narrowed_steady, narrowed_above, narrowed_below, narrowed_past, narrowed_before}

-- ---- tests that are alike, or that hold nowhere

pub narrowed_none : (d : ℤ) (test : ℤ → Bool) (x : ℤ) → ((y : ℤ) → test y ≡ false) → narrowed d test x ≡ false
narrowed_none d test x none = by d
  where
    by : (d : ℤ) → narrowed d test x ≡ false
    by (pos n) = (narrowed_joined (pos n) test x).other x (omega (arith, ints)) (omega (arith, ints)) (none x)
    by (negsuc n) = elim (cases_Bool (narrowed (negsuc n) test x)) [
      | inl e ↦ let one = (narrowed_joined (negsuc n) test x).found e in absurd (true≢false (sym one.3 ∙ none one.0))
      | inr e ↦ e
    ]

-- what holds at more numbers holds at more when it is narrowed
pub narrowed_more : (d : ℤ) (f g : ℤ → Bool) (x : ℤ) → ((y : ℤ) → f y ≡ true → g y ≡ true) → narrowed d f x ≡ true → narrowed d g x ≡ true
narrowed_more (pos n) f g x more e = elim (cases_Bool (narrowed (pos n) g x)) [
  | inl t ↦ t
  | inr fails ↦
      let y = (narrowed_joined (pos n) g x).found fails in
      absurd (elim (cases_Bool (f y.0)) [
        | inl t ↦ true≢false (sym (more y.0 t) ∙ y.3)
        | inr t ↦ true≢false (sym e ∙ (narrowed_joined (pos n) f x).other y.0 y.1 y.2 t)
      ])
]
narrowed_more (negsuc n) f g x more e =
    let y = (narrowed_joined (negsuc n) f x).found e in
    (narrowed_joined (negsuc n) g x).other y.0 y.1 y.2 (more y.0 y.3)

-- ---- the inset of a set that lies within a rectangle

-- the rows of a set whose pixels lie within its bounds
module _ (s : PixelSet) (r : Rect) (around : (p : Point) → rect_holds r p ≡ false → s p ≡ false) (dh dv : ℤ) where
  left_of : (h v : ℤ) → h <ℤ r.left → s (record { h = h; v = v }) ≡ false
  left_of h v l = around (record { h = h; v = v }) (and_left (between r.left h r.right) (between r.top v r.bottom) (grind (arith, ints)))

  right_of : (h v : ℤ) → r.right ≤ℤ h → s (record { h = h; v = v }) ≡ false
  right_of h v l = around (record { h = h; v = v }) (and_left (between r.left h r.right) (between r.top v r.bottom) (grind (arith, ints)))

  pub above : (h v : ℤ) → v <ℤ r.top → s (record { h = h; v = v }) ≡ false
  above h v l = around (record { h = h; v = v }) (and_right (between r.left h r.right) (between r.top v r.bottom) (grind (arith, ints)))

  pub below : (h v : ℤ) → r.bottom ≤ℤ v → s (record { h = h; v = v }) ≡ false
  below h v l = around (record { h = h; v = v }) (and_right (between r.left h r.right) (between r.top v r.bottom) (grind (arith, ints)))

  row_above : (h v : ℤ) → v <ℤ r.top → inset_columns s dh (record { h = h; v = v }) ≡ false
  row_above h v l = narrowed_none dh (λ x. s (record { h = x; v = v })) h (λ x. above x v l)

  row_below : (h v : ℤ) → r.bottom ≤ℤ v → inset_columns s dh (record { h = h; v = v }) ≡ false
  row_below h v l = narrowed_none dh (λ x. s (record { h = x; v = v })) h (λ x. below x v l)

  -- no pixel of it lies further out than it is widened
  pub none_left : (h v : ℤ) → h <ℤ (r.left -ℤ widening dh) → inset s dh dv (record { h = h; v = v }) ≡ false
  none_left h v l = narrowed_none dv (λ y. inset_columns s dh (record { h = h; v = y })) v
      (λ y. narrowed_before dh (λ x. s (record { h = x; v = y })) r.left h (λ x. left_of x y) l)

  pub none_right : (h v : ℤ) → (r.right +ℤ widening dh) ≤ℤ h → inset s dh dv (record { h = h; v = v }) ≡ false
  none_right h v l = narrowed_none dv (λ y. inset_columns s dh (record { h = h; v = y })) v
      (λ y. narrowed_past dh (λ x. s (record { h = x; v = y })) r.right h (λ x. right_of x y) l)

  pub none_above : (h v : ℤ) → v <ℤ (r.top -ℤ widening dv) → inset s dh dv (record { h = h; v = v }) ≡ false
  none_above h v l = narrowed_before dv (λ y. inset_columns s dh (record { h = h; v = y })) r.top v (row_above h) l

  pub none_below : (h v : ℤ) → (r.bottom +ℤ widening dv) ≤ℤ v → inset s dh dv (record { h = h; v = v }) ≡ false
  none_below h v l = narrowed_past dv (λ y. inset_columns s dh (record { h = h; v = y })) r.bottom v (row_below h) l

  -- what lies past an end beyond the bounds lies at that end too
  pub back_left : (end h v : ℤ) → end <ℤ r.left → h ≤ℤ end → inset s dh dv (record { h = h; v = v }) ≡ true → inset s dh dv (record { h = end; v = v }) ≡ true
  back_left end h v out past = narrowed_more dv (λ y. inset_columns s dh (record { h = h; v = y })) (λ y. inset_columns s dh (record { h = end; v = y })) v
      (λ y. narrowed_below dh (λ x. s (record { h = x; v = y })) end h (λ x l. left_of x y (omega (arith, ints))) past)

  pub back_right : (end h v : ℤ) → r.right ≤ℤ end → end ≤ℤ h → inset s dh dv (record { h = h; v = v }) ≡ true → inset s dh dv (record { h = end; v = v }) ≡ true
  back_right end h v out past = narrowed_more dv (λ y. inset_columns s dh (record { h = h; v = y })) (λ y. inset_columns s dh (record { h = end; v = y })) v
      (λ y. narrowed_above dh (λ x. s (record { h = x; v = y })) end h (λ x l. right_of x y (omega (arith, ints))) past)

  pub back_up : (end h v : ℤ) → end <ℤ r.top → v ≤ℤ end → inset s dh dv (record { h = h; v = v }) ≡ true → inset s dh dv (record { h = h; v = end }) ≡ true
  back_up end h v out past = narrowed_below dv (λ y. inset_columns s dh (record { h = h; v = y })) end v (λ y l. row_above h y (omega (arith, ints))) past

  pub back_down : (end h v : ℤ) → r.bottom ≤ℤ end → end ≤ℤ v → inset s dh dv (record { h = h; v = v }) ≡ true → inset s dh dv (record { h = h; v = end }) ≡ true
  back_down end h v out past = narrowed_above dv (λ y. inset_columns s dh (record { h = h; v = y })) end v (λ y l. row_below h y (omega (arith, ints))) past

-- ---- rows that are like those above

-- rows above and below the bounds have no pixel
pub steady_above : (s : PixelSet) (r : Rect) (v : ℤ) → ((p : Point) → rect_holds r p ≡ false → s p ≡ false) → v <ℤ r.top → IsSteady s v
steady_above s r v around l h = none v l ∙ sym (none (v -ℤ pos 1) (omega (arith, ints)))
  where
    none : (w : ℤ) → w <ℤ r.top → s (record { h = h; v = w }) ≡ false
    none w m = around (record { h = h; v = w }) (and_right (between r.left h r.right) (between r.top w r.bottom) (grind (arith, ints)))

pub steady_below : (s : PixelSet) (r : Rect) (v : ℤ) → ((p : Point) → rect_holds r p ≡ false → s p ≡ false) → r.bottom <ℤ v → IsSteady s v
steady_below s r v around l h = none v (omega (arith, ints)) ∙ sym (none (v -ℤ pos 1) (omega (arith, ints)))
  where
    none : (w : ℤ) → r.bottom ≤ℤ w → s (record { h = h; v = w }) ≡ false
    none w m = around (record { h = h; v = w }) (and_right (between r.left h r.right) (between r.top w r.bottom) (grind (arith, ints)))

-- where the rows that come in and go out are like those above them, so is the row
pub inset_steady : (s : PixelSet) (dh dv r v : ℤ) → r ≡ reach dv → IsSteady s (v +ℤ r) → IsSteady s (v -ℤ r) → IsSteady (inset s dh dv) v
inset_steady s dh dv r v is last first h =
    let later : IsSteady s (v +ℤ reach dv) = subst (λ z. IsSteady s (v +ℤ z)) is last in
    let sooner : IsSteady s (v -ℤ reach dv) = subst (λ z. IsSteady s (v -ℤ z)) is first in
    narrowed_steady dv (λ y. inset_columns s dh (record { h = h; v = y })) v
    (λ i. narrowed dh (λ x. later x i) h)
    (λ i. narrowed dh (λ x. sooner x i) h)

-- ---- rows that are joined

-- between the sides, a row has what the rows from one up to another, narrowed, give together
pub record AreJoined (all : Bool) (s : PixelSet) (dh from to left right : ℤ) (row : Columns) : Type 0 where
  pub each : (h : ℤ) → between left h right ≡ true → IsJoined all (λ y. inset_columns s dh (record { h = h; v = y })) from to (has_column row h)
  pub beside : (h : ℤ) → between left h right ≡ false → has_column row h ≡ false

-- a narrowed row of a set
pub row_narrowed : (s : PixelSet) (dh left right v : ℤ) (from row : Columns) → ((h : ℤ) → has_column from h ≡ s (record { h = h; v = v }))
    → ((h : ℤ) → has_column row h ≡ (between left h right && narrowed dh (has_column from) h)) → (h : ℤ) → has_column row h ≡ (between left h right && inset_columns s dh (record { h = h; v = v }))
row_narrowed s dh left right v from row pixels is h = is h ∙ (λ i. between left h right && narrowed dh (λ x. pixels x i) h)

pub meant_joined : (all a b : Bool) → means (joining all) a b ≡ joined all a b
meant_joined true a b = refl
meant_joined false a b = refl

neither_joined : (all : Bool) → joined all false false ≡ false
neither_joined true = refl
neither_joined false = refl

module _ (all : Bool) (s : PixelSet) (dh left right : ℤ) where
  pub first_joined : (v : ℤ) (row : Columns) → ((h : ℤ) → has_column row h ≡ (between left h right && inset_columns s dh (record { h = h; v = v }))) → AreJoined all s dh v (v +ℤ pos 1) left right row
  first_joined v row is = record {
    each = λ h e. joined_first all (λ y. inset_columns s dh (record { h = h; v = y })) v (has_column row h) (is h ∙ ap (λ t. t && inset_columns s dh (record { h = h; v = v })) e);
    beside = λ h e. is h ∙ ap (λ t. t && inset_columns s dh (record { h = h; v = v })) e;
  }

  -- beside the sides nothing is joined
  pub joined_beside : (from v : ℤ) (old next : Columns) → AreJoined all s dh from v left right old → ((h : ℤ) → has_column next h ≡ (between left h right && inset_columns s dh (record { h = h; v = v })))
      → (h : ℤ) → between left h right ≡ false → means (joining all) (has_column old h) (has_column next h) ≡ false
  joined_beside from v old next j is h e =
      (λ i. means (joining all) (j.beside h e i) ((is h ∙ ap (λ t. t && inset_columns s dh (record { h = h; v = v })) e) i))
      ∙ meant_joined all false false ∙ neither_joined all

  pub one_joined : (from v : ℤ) (old next new : Columns) → AreJoined all s dh from v left right old → from <ℤ v → ((h : ℤ) → has_column next h ≡ (between left h right && inset_columns s dh (record { h = h; v = v })))
      → ((h : ℤ) → has_column new h ≡ means (joining all) (has_column old h) (has_column next h)) → AreJoined all s dh from (v +ℤ pos 1) left right new
  one_joined from v old next new j low is more = record {
    each = λ h e. joined_more all (λ y. inset_columns s dh (record { h = h; v = y })) from v (has_column old h) (has_column new h) (j.each h e) (omega (arith, ints))
        (more h ∙ meant_joined all (has_column old h) (has_column next h) ∙ ap (joined all (has_column old h)) (is h ∙ ap (λ t. t && inset_columns s dh (record { h = h; v = v })) e));
    beside = λ h e. more h ∙ joined_beside from v old next j is h e;
  }

  pub steady_joined : (from v : ℤ) (row : Columns) → AreJoined all s dh from v left right row → from <ℤ v → IsSteady s v → AreJoined all s dh from (v +ℤ pos 1) left right row
  steady_joined from v row j low steady = record {
    each = λ h e. joined_steady all (λ y. inset_columns s dh (record { h = h; v = y })) from v (has_column row h) (j.each h e) low (λ i. narrowed dh (λ x. steady x i) h);
    beside = j.beside;
  }

-- in the end a pixel is that of the inset
pub pixel_joined : (s : PixelSet) (dh dv r h v to : ℤ) (all b : Bool) → r ≡ reach dv → all ≡ narrows dv → to ≡ (v +ℤ r) +ℤ pos 1
    → IsJoined all (λ y. inset_columns s dh (record { h = h; v = y })) (v -ℤ r) to b → b ≡ inset s dh dv (record { h = h; v = v })
pixel_joined s dh dv r h v to all b is_reach is_all is_to j =
    let test : ℤ → Bool = λ y. inset_columns s dh (record { h = h; v = y }) in
    let last : to ≡ v +ℤ (r +ℤ pos 1) = omega (arith, ints, is_to) in
    let placed = subst (λ z. IsJoined all test (v -ℤ r) z b) last j in
    narrowed_from dv test v b (subst (λ a. IsJoined a test (v -ℤ reach dv) (v +ℤ (reach dv +ℤ pos 1)) b) is_all (subst (λ z. IsJoined all test (v -ℤ z) (v +ℤ (z +ℤ pos 1)) b) is_reach placed))

-- and so is the row that of the inset
pub all_joined : (s : PixelSet) (dh dv r v to left right : ℤ) (all : Bool) (row : Columns) → r ≡ reach dv → all ≡ narrows dv → to ≡ (v +ℤ r) +ℤ pos 1 → AreJoined all s dh (v -ℤ r) to left right row
    → (h : ℤ) → has_column row h ≡ (between left h right && inset s dh dv (record { h = h; v = v }))
all_joined s dh dv r v to left right all row is_reach is_all is_to j h = elim (cases_Bool (between left h right)) [
  | inl e ↦ pixel_joined s dh dv r h v to all (has_column row h) is_reach is_all is_to (j.each h e) ∙ sym (ap (λ t. t && inset s dh dv (record { h = h; v = v })) e)
  | inr e ↦ j.beside h e ∙ sym (ap (λ t. t && inset s dh dv (record { h = h; v = v })) e)
]
