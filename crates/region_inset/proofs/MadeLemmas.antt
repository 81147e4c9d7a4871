-- How far the columns of the inversion points between two rows are found.
use Rattle.std.proofs.Common.{◌≡◌, ◌++◌, not, Bool, true, false, List, [], ◌∷◌, ℤ, pos, negsuc, ◌-ℤ◌, ◌+ℤ◌, ◌≤ℤ◌, ◌<ℤ◌, refl, sym, ap, ◌∙◌, subst, arith}
use Rattle.std.proofs.lemmas.Bool.{false≢true}
use Rattle.std.proofs.lemmas.Int.{ints, by_lt_z}
use Rattle.tb_geom.specs.Rects.{between}
use Rattle.region_bytes.proofs.Edges.{inside-nil, inside-push_after, inside-push_before, IsRow-nil}
use Rattle.region_rows.specs.Edges.{differ, inside, IsCoordinate, IsRow}
use Rattle.region_rows.specs.Rows.{EdgeRow, IsPushed}
use Rattle.region_rows.proofs.Climbs.{climb_append, higher, inside_above, lower, row_of}
use Rattle.shape_strips.proofs.RunLemmas.{between_before, between_past}
use Rattle.pixel_rows.proofs.ChangeLemmas.{AreFound, here_again, same_as}

pub none_found : (left right : ℤ) (t : ℤ → Bool) (columns : List ℤ) → columns ≡ [] → ((x : ℤ) → between left x right ≡ false → t x ≡ false) → AreFound left left t columns false
none_found left right t columns is outside = subst (λ xs. AreFound left left t xs false) (sym is) (record {
  climbs = omega (arith, ints);
  pixels = λ x l. inside-nil x ∙ sym (outside x (between_before left x right l));
  last = sym (outside (left -ℤ pos 1) (between_before left (left -ℤ pos 1) right (omega (arith, ints))));
})

-- up to the next one the row is as it was at the column before
as_before : (left h : ℤ) (t : ℤ → Bool) (columns : List ℤ) (turned : Bool) → AreFound left h t columns turned → inside columns h ≡ turned
as_before left h t columns turned f =
    inside_above (left -ℤ pos 1) columns (h -ℤ pos 1) h f.climbs (omega (arith, ints))
    ∙ sym (inside_above (left -ℤ pos 1) columns (h -ℤ pos 1) (h -ℤ pos 1) f.climbs (omega (arith, ints)))
    ∙ f.pixels (h -ℤ pos 1) (omega (arith, ints)) ∙ sym f.last

pub found_none : (left h : ℤ) (t : ℤ → Bool) (columns : List ℤ) (turned : Bool) → AreFound left h t columns turned → differ (t h) turned ≡ false → AreFound left (h +ℤ pos 1) t columns turned
found_none left h t columns turned f alike =
    let same = same_as (t h) turned alike in
    record {
      climbs = higher (left -ℤ pos 1) columns (h -ℤ pos 1) ((h +ℤ pos 1) -ℤ pos 1) (omega (arith, ints)) f.climbs;
      pixels = λ x l. by_lt_z x h (f.pixels x)
          (λ m. let e : h ≡ x = omega (arith, ints) in subst (λ z. inside columns z ≡ t z) e (as_before left h t columns turned f ∙ sym same));
      last = sym same ∙ ap t (here_again h);
    }

other_than : (a b : Bool) → differ a b ≡ true → a ≡ not b
other_than true true e = absurd (false≢true e)
other_than true false e = refl
other_than false true e = refl
other_than false false e = absurd (false≢true e)

pub found_one : (left h : ℤ) (t : ℤ → Bool) (old new : List ℤ) (turned : Bool) → AreFound left h t old turned → left ≤ℤ h → differ (t h) turned ≡ true → new ≡ old ++ h ∷ [] → AreFound left (h +ℤ pos 1) t new (not turned)
found_one left h t old new turned f low other is =
    let here = other_than (t h) turned other in
    subst (λ xs. AreFound left (h +ℤ pos 1) t xs (not turned)) (sym is) (record {
      climbs = climb_append (left -ℤ pos 1) old (h -ℤ pos 1) (h ∷ []) ((h +ℤ pos 1) -ℤ pos 1) f.climbs (omega (arith, ints), omega (arith, ints));
      pixels = λ x l. by_lt_z x h
          (λ m. inside-push_before old h x m ∙ f.pixels x m)
          (λ m. let e : h ≡ x = omega (arith, ints) in
          subst (λ z. inside (old ++ h ∷ []) z ≡ t z) e (inside-push_after old h h (omega (arith, ints)) ∙ ap not (as_before left h t old turned f) ∙ sym here));
      last = sym here ∙ ap t (here_again h);
    })

-- in the end all are found
module _ (left right h : ℤ) (t : ℤ → Bool) (columns : List ℤ) (turned : Bool) (f : AreFound left h t columns turned) (end : right <ℤ h) (outside : (x : ℤ) → between left x right ≡ false → t x ≡ false) where
  out_here : t (h -ℤ pos 1) ≡ false
  out_here = outside (h -ℤ pos 1) (between_past left (h -ℤ pos 1) right (omega (arith, ints)))

  pub all_found : (x : ℤ) → inside columns x ≡ t x
  all_found x = by_lt_z x h (f.pixels x) (λ l.
      inside_above (left -ℤ pos 1) columns (h -ℤ pos 1) x f.climbs (omega (arith, ints))
      ∙ sym (inside_above (left -ℤ pos 1) columns (h -ℤ pos 1) (h -ℤ pos 1) f.climbs (omega (arith, ints)))
      ∙ f.pixels (h -ℤ pos 1) (omega (arith, ints)) ∙ out_here ∙ sym (outside x (between_past left x right (omega (arith, ints)))))

  pub found_row : IsCoordinate left → h ≤ℤ pos 16384 → IsRow columns
  found_row in_range high =
      let low = in_range.0 in
      row_of columns
      (lower (left -ℤ pos 1) (negsuc 16384) columns (pos 16383) (omega (arith, ints)) (higher (left -ℤ pos 1) columns (h -ℤ pos 1) (pos 16383) (omega (arith, ints)) f.climbs))
      (sym (inside_above (left -ℤ pos 1) columns (h -ℤ pos 1) (h -ℤ pos 1) f.climbs (omega (arith, ints))) ∙ f.pixels (h -ℤ pos 1) (omega (arith, ints)) ∙ out_here)

-- where there are none, nothing turns
pub none_pushed : (rows : List EdgeRow) (v : ℤ) (points : List ℤ) (t : ℤ → Bool) → points ≡ [] → ((h : ℤ) → inside points h ≡ t h) → IsPushed rows rows v t
none_pushed rows v points t none pixels = record { points = []; pixels = λ h. sym (ap (λ xs. inside xs h) none) ∙ pixels h; row = IsRow-nil; pushed = refl }
