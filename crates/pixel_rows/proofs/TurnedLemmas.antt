-- Rows by the columns at which they begin and end, and by the runs that are put in.
use Rattle.std.proofs.Common.{◌≡◌, ◌&&◌, ◌||◌, Bool, true, false, inl, inr, ℤ, pos, ◌-ℤ◌, ◌+ℤ◌, ◌≤ℤ◌, ◌<ℤ◌, refl, sym, ap, ◌∙◌, subst, arith}
use Rattle.std.specs.Ordering.{int_eq}
use Rattle.std.proofs.lemmas.Bool.{and_right, cases_Bool}
use Rattle.std.proofs.lemmas.Int.{ints}
use Rattle.tb_geom.specs.Rects.{between, is_coordinate}
use Rattle.tb_geom.proofs.RectLemmas.{between-in, or_right}
use Rattle.region_rows.specs.Edges.{differ, IsCoordinate}
use Rattle.shape_strips.proofs.RunLemmas.{between_before}
use Rattle.pixel_rows.specs.declared.columns.Columns.{Columns}
use Rattle.pixel_rows.specs.Columns.{has_column, AreEdgesOf}
use Rattle.pixel_rows.proofs.ColumnLemmas.{AreKept, all_kept, none_kept, one_kept, one_passed, turned_there}
use Rattle.pixel_rows.proofs.ChangeLemmas.{here_again}
use Rattle.pixel_rows.proofs.RowLemmas.{between_same}

-- ---- from edges to columns

-- of the columns of a row those up to h are found
pub record AreTurnedTo (row : ℤ → Bool) (left h : ℤ) (within : Bool) (columns : Columns) : Type 0 where
  pub before : within ≡ row (h -ℤ pos 1)
  pub kept : AreKept row left h columns

module _ (row : ℤ → Bool) (left right : ℤ) (edges : Columns) (e : AreEdgesOf edges left right row) where
  pub none_turned_to : (columns : Columns) → ((x : ℤ) → has_column columns x ≡ false) → AreTurnedTo row left left false columns
  none_turned_to columns none = record {
    before = sym (e.within (left -ℤ pos 1) (between_before left (left -ℤ pos 1) right (omega (arith, ints))));
    kept = none_kept row left columns none;
  }

  pub turned_in : (h : ℤ) (within : Bool) → left ≤ℤ h → h <ℤ right → within ≡ row (h -ℤ pos 1) → differ within (has_column edges h) ≡ row h
  turned_in h within low below before = (λ i. differ (before i) (e.each h (between-in left h right low below) i)) ∙ turned_there (row (h -ℤ pos 1)) (row h)

  pub one_turned_to : (h : ℤ) (within now : Bool) (old new : Columns) → left ≤ℤ h → h <ℤ right → IsCoordinate h → now ≡ differ within (has_column edges h) → now ≡ true
      → ((x : ℤ) → has_column new x ≡ differ (is_coordinate x && int_eq h x) (has_column old x)) → AreTurnedTo row left h within old → AreTurnedTo row left (h +ℤ pos 1) now new
  one_turned_to h within now old new low below column is here_in flip t =
      let here : now ≡ row h = is ∙ turned_in h within low below t.before in
      record { before = here ∙ ap row (here_again h); kept = one_kept row left h old new t.kept low column (sym here ∙ here_in) flip }

  pub one_passed_to : (h : ℤ) (within now : Bool) (columns : Columns) → left ≤ℤ h → h <ℤ right → now ≡ differ within (has_column edges h) → now ≡ false
      → AreTurnedTo row left h within columns → AreTurnedTo row left (h +ℤ pos 1) now columns
  one_passed_to h within now columns low below is no_column t =
      let here : now ≡ row h = is ∙ turned_in h within low below t.before in
      record { before = here ∙ ap row (here_again h); kept = one_passed row left h columns t.kept (sym here ∙ no_column) }

  pub all_turned : (h : ℤ) (within : Bool) (columns : Columns) → right ≤ℤ h → AreTurnedTo row left h within columns → (x : ℤ) → has_column columns x ≡ row x
  all_turned h within columns past t = all_kept row left right h columns t.kept past e.within

-- ---- runs that are put in

-- the columns from `left` up to h are put in
pub record ArePut (left h : ℤ) (old new : Columns) : Type 0 where
  pub each : (x : ℤ) → has_column new x ≡ (between left x h || has_column old x)

pub none_put : (left : ℤ) (old : Columns) → ArePut left left old old
none_put left old = record { each = λ x. sym (ap (λ t. t || has_column old x) (between_same left x left refl)) }

pub one_put : (left h : ℤ) (first old new : Columns) → ArePut left h first old → left ≤ℤ h → IsCoordinate h
    → ((x : ℤ) → has_column new x ≡ ((is_coordinate x && int_eq h x) || has_column old x)) → ArePut left (h +ℤ pos 1) first new
one_put left h first old new put low column more = record {
  each = λ x. more x ∙ (λ i. at_it x i || put.each x i) ∙ joined (int_eq h x) (between left x h) (has_column first x) ∙ ap (λ t. t || has_column first x) (one_more x);
}
  where
    at_it : (x : ℤ) → (is_coordinate x && int_eq h x) ≡ int_eq h x
    at_it x = elim (cases_Bool (int_eq h x)) [
      | inl e ↦ ap (λ t. is_coordinate x && t) e ∙ ap (λ t. t && true) (coordinate_there e) ∙ sym e
      | inr e ↦ and_right (is_coordinate x) (int_eq h x) e ∙ sym e
    ]
      where
        coordinate_there : int_eq h x ≡ true → is_coordinate x ≡ true
        coordinate_there e =
            let a = column.0 in
            let b = column.1 in
            grind (arith, ints)

    joined : (a b c : Bool) → (a || (b || c)) ≡ ((a || b) || c)
    joined true b c = refl
    joined false b c = refl

    one_more : (x : ℤ) → (int_eq h x || between left x h) ≡ between left x (h +ℤ pos 1)
    one_more x = grind (arith, ints)

-- one column is put in
pub put_where : (h x : ℤ) (old : Columns) (b : Bool) → has_column old h ≡ true → b ≡ has_column old x → b ≡ ((is_coordinate x && int_eq h x) || has_column old x)
put_where h x old b here same = same ∙ sym (by (int_eq h x) refl)
  where
    by : (t : Bool) → int_eq h x ≡ t → ((is_coordinate x && t) || has_column old x) ≡ has_column old x
    by true e = let is : h ≡ x = grind (arith, ints) in or_right (is_coordinate x && true) (has_column old x) (sym (ap (has_column old) is) ∙ here) ∙ sym (sym (ap (has_column old) is) ∙ here)
    by false e = ap (λ t. t || has_column old x) (and_right (is_coordinate x) false refl)

pub put_there : (h x : ℤ) (old : Columns) (b : Bool) → has_column old h ≡ false → b ≡ differ (is_coordinate x && int_eq h x) (has_column old x) → b ≡ ((is_coordinate x && int_eq h x) || has_column old x)
put_there h x old b here flipped = flipped ∙ by (int_eq h x) refl
  where
    alone : (c : Bool) → differ c false ≡ (c || false)
    alone true = refl
    alone false = refl

    by : (t : Bool) → int_eq h x ≡ t → differ (is_coordinate x && t) (has_column old x) ≡ ((is_coordinate x && t) || has_column old x)
    by true e =
        let is : h ≡ x = grind (arith, ints) in
        let none = sym (ap (has_column old) is) ∙ here in
        subst (λ c. differ (is_coordinate x && true) c ≡ ((is_coordinate x && true) || c)) (sym none) (alone (is_coordinate x && true))
    by false e = (λ i. differ (and_right (is_coordinate x) false refl i) (has_column old x)) ∙ sym (ap (λ t. t || has_column old x) (and_right (is_coordinate x) false refl))
