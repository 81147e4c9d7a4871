-- The rows of the pixels of two rectangles.
use Rattle.std.proofs.Common.{◌≡◌, ◌<◌, Bool, true, false, not, ◌&&◌, ◌||◌, List, [], ◌∷◌, ◌++◌, length, map, ℤ, pos, ◌-ℤ◌, ◌<ℤ◌, ◌≤ℤ◌, refl, sym, ap, ◌∙◌, subst, arith}
use Rattle.std.specs.Prelude.{int_le, int_lt, Option, Some, None, IfSome}
use Rattle.std.specs.Int.{int_max, int_min}
use Rattle.std.proofs.lemmas.Int.{ints, clamps}
use Rattle.std.proofs.lemmas.List.{get_or_default, map_push}
use Rattle.std.proofs.lemmas.List.Elements.{All-push, All-nil}
use Rattle.tb_geom.specs.declared.rect.Rect.{Rect}
use Rattle.tb_geom.specs.Rects.{between, rect_holds}
use Rattle.region_bytes.specs.Points.{IsInRange, IsPointRow, in_rows, top_of}
use Rattle.region_bytes.proofs.Rows.{in_rows-push, inverted-points_of, nil_has, past_rows}
use Rattle.region_bytes.proofs.Edges.{IsRow-nil}
use Rattle.region_bytes.proofs.Short.{none_canonical}
use Rattle.region_rows.specs.Edges.{differ, inside, is_odd, IsCoordinate, IsRow}
use Rattle.region_rows.specs.Pairs.{across, alone, around, begun, columns, either, ends_if, gone, pair_holds, AreStacked, AreTurnedFrom, IsPair, IsProper, IsRun}
use Rattle.region_rows.specs.Rows.{EdgeRow, two_rows, with_row, AreRows, IsPushed}
use Rattle.region_rows.specs.declared.pair.Pair.{Pair}
use Rattle.region_rows.specs.declared.pair.Run.{Run}
use Rattle.region_rows.proofs.Climbs.{row_of}
use Rattle.region_rows.proofs.Merged.{none_turned}
use Rattle.region_rows.proofs.Pushes.{IsRising-push, each_push}

-- ---- rows of two points and of four

two_even : is_odd 2 ≡ false
unfolding is_odd
two_even = refl

four_even : is_odd 4 ≡ false
unfolding is_odd
four_even = refl

pub row_of_two : (x y : ℤ) → IsCoordinate x → IsCoordinate y → x <ℤ y → IsRow (x ∷ y ∷ [])
row_of_two x y a b l = let low = a.0 in row_of (x ∷ y ∷ []) (omega (arith, ints), (l, b.1)) two_even

pub row_of_four : (x y z w : ℤ) → IsCoordinate x → IsCoordinate w → x <ℤ y → y <ℤ z → z <ℤ w → IsRow (x ∷ y ∷ z ∷ w ∷ [])
row_of_four x y z w a b l m n = let low = a.0 in row_of (x ∷ y ∷ z ∷ w ∷ []) (omega (arith, ints), (l, (m, (n, b.1)))) four_even

pub inside_two : (x y h : ℤ) → x <ℤ y → inside (x ∷ y ∷ []) h ≡ between x h y
unfolding inside
inside_two x y h l = grind (arith, ints)

pub inside_four : (x y z w h : ℤ) → x <ℤ y → y <ℤ z → z <ℤ w → inside (x ∷ y ∷ z ∷ w ∷ []) h ≡ (between x h w && not (between y h z))
unfolding inside
inside_four x y z w h l m n = grind (arith, ints)

-- ---- the columns from x up to w that lie not from y up to z

around_if : (p q : Bool) (x y z w h : ℤ) → int_lt x y ≡ p → int_lt z w ≡ q → x ≤ℤ y → y <ℤ z → z ≤ℤ w → inside (ends_if p x y ++ ends_if q z w) h ≡ (between x h w && not (between y h z))
unfolding inside
around_if true true x y z w h a b l m n = grind (arith, ints)
around_if true false x y z w h a b l m n = grind (arith, ints)
around_if false true x y z w h a b l m n = grind (arith, ints)
around_if false false x y z w h a b l m n = grind (arith, ints)

around_row_if : (p q : Bool) (x y z w : ℤ) → int_lt x y ≡ p → int_lt z w ≡ q → IsCoordinate x → IsCoordinate w → x ≤ℤ y → y <ℤ z → z ≤ℤ w → IsRow (ends_if p x y ++ ends_if q z w)
around_row_if true true x y z w a b c d l m n = row_of_four x y z w c d (grind (arith, ints)) m (grind (arith, ints))
around_row_if true false x y z w a b c d l m n = let low = c.0 in let high = d.1 in row_of_two x y c (omega (arith, ints), omega (arith, ints)) (grind (arith, ints))
around_row_if false true x y z w a b c d l m n = let low = c.0 in let high = d.1 in row_of_two z w (omega (arith, ints), omega (arith, ints)) d (grind (arith, ints))
around_row_if false false x y z w a b c d l m n = IsRow-nil

-- the columns of a run that another one lacks, where they share none
pub apart_alone : (own other : Run) (h : ℤ) → IsRun own → int_min own.right other.right ≤ℤ int_max own.left other.left → inside (own.left ∷ own.right ∷ []) h ≡ alone own other h
apart_alone own other h r l = let o = r.order in inside_two own.left own.right h o ∙ grind (arith, ints, clamps)

-- and where they do
module _ (own other : Run) (r : IsRun own) (xs : List ℤ) (x y z w : ℤ) (is : xs ≡ around x y z w) (first : x ≡ own.left) (low : y ≡ int_max own.left other.left) (high : z ≡ int_min own.right other.right) (last : w ≡ own.right) (shared : y <ℤ z) where
  pub around_alone : (h : ℤ) → inside xs h ≡ alone own other h
  around_alone h =
      let o = r.order in
      ap (λ l. inside l h) is ∙ around_if _ _ x y z w h refl refl (omega (arith, ints, clamps)) shared (omega (arith, ints, clamps)) ∙ grind (arith, ints, clamps)

  pub around_row : IsRow xs
  around_row =
      subst IsRow (sym is) (around_row_if _ _ x y z w refl refl (subst IsCoordinate (sym first) r.left_in) (subst IsCoordinate (sym last) r.right_in) (omega (arith, ints, clamps)) shared (omega (arith, ints, clamps)))

-- the columns of either, as those around both that the gap lacks
module _ (a b both gap : Run) (p : IsRun a) (q : IsRun b) (low : both.left ≡ int_min a.left b.left) (high : both.right ≡ int_max a.right b.right) where
  pub around_gap : gap.left ≡ int_min a.right b.right → gap.right ≡ int_max a.left b.left → (h : ℤ) → alone both gap h ≡ either a b h
  around_gap left right h = let m = p.order in let n = q.order in grind (arith, ints, clamps)

  pub around_run : IsRun both
  around_run =
      let m = p.order in
      let a0 = p.left_in.0 in
      let a1 = p.right_in.1 in
      let b0 = q.left_in.0 in
      let b1 = q.right_in.1 in
      record {
        left_in = (omega (arith, ints, clamps), omega (arith, ints, clamps));
        right_in = (omega (arith, ints, clamps), omega (arith, ints, clamps));
        order = omega (arith, ints, clamps);
      }

pub pushed_as : (old new : List EdgeRow) (v : ℤ) (s t : ℤ → Bool) → IsPushed old new v s → ((h : ℤ) → s h ≡ t h) → IsPushed old new v t
pushed_as old new v s t p e = record { points = p.points; pixels = λ h. p.pixels h ∙ e h; row = p.row; pushed = p.pushed }

-- ---- rows that are pushed

pub none_stacked : (upto : ℤ) → AreStacked [] upto
none_stacked upto = record { rows_ok = none_canonical.are_rows; in_range = All-nil IsInRange; below = λ k m. absurd (omega arith) }

stacked_row : (rows : List EdgeRow) (upto v : ℤ) (f : List ℤ) → AreStacked rows upto → upto <ℤ v → IsRow f → IsCoordinate v → AreStacked (with_row rows v f) v
stacked_row rows upto v [] s l r top = record { rows_ok = s.rows_ok; in_range = s.in_range; below = λ k m. let b = s.below k m in omega (arith, ints) }
stacked_row rows upto v (x ∷ xs) s l r top =
    let f : List ℤ = x ∷ xs in
    record {
      rows_ok = record {
        rising = rw (map_push top_of rows (v, f)) (IsRising-push (map top_of rows) upto v s.rows_ok.rising s.below l);
        each = All-push IsPointRow rows (v, f) s.rows_ok.each (record { rising = r.rising; even = r.even; some = omega arith });
      };
      in_range = All-push IsInRange rows (v, f) s.in_range (top, λ k d m. subst IsCoordinate (get_or_default f k (pos 0) d m) (r.in_range k m));
      below = rw (map_push top_of rows (v, f)) (each_push (λ z. z ≤ℤ v) (map top_of rows) v (λ k m. let b = s.below k m in omega (arith, ints)) (omega (arith, ints)));
    }

row_pixel : (rows : List EdgeRow) (v : ℤ) (f : List ℤ) (h w : ℤ) → in_rows (with_row rows v f) h w ≡ differ (int_le v w && inside f h) (in_rows rows h w)
row_pixel rows v [] h w = none_turned (in_rows rows h w) v w h
row_pixel rows v (x ∷ xs) h w = in_rows-push rows (v, x ∷ xs) h w

pub stacked : (old new : List EdgeRow) (upto v : ℤ) (s : ℤ → Bool) → AreStacked old upto → upto <ℤ v → IsCoordinate v → IsPushed old new v s → AreStacked new v
stacked old new upto v s a l top p = subst (λ rows. AreStacked rows v) (sym p.pushed) (stacked_row old upto v p.points a l p.row top)

pub pushed_pixel : (old new : List EdgeRow) (v : ℤ) (s : ℤ → Bool) → IsPushed old new v s → (h w : ℤ) → in_rows new h w ≡ differ (int_le v w && s h) (in_rows old h w)
pushed_pixel old new v s p h w = ap (λ rows. in_rows rows h w) p.pushed ∙ row_pixel old v p.points h w ∙ (λ i. differ (int_le v w && p.pixels h i) (in_rows old h w))

-- a row that has points is pushed as it is
pub pushed_some : (old new : List EdgeRow) (v : ℤ) (points : List ℤ) → 0 < length points → new ≡ old ++ (v, points) ∷ [] → new ≡ with_row old v points
pushed_some old new v [] l e = absurd (omega arith)
pushed_some old new v (x ∷ xs) l e = e

-- rows of a finite set are those of a region
pub stacked_rows : (rows : List EdgeRow) (upto : ℤ) (s : ℤ → ℤ → Bool) → AreStacked rows upto → ((h w : ℤ) → in_rows rows h w ≡ s h w) → ((h w : ℤ) → pos 16383 ≤ℤ w → s h w ≡ false) → AreRows rows
stacked_rows rows upto s a pixels out =
    record {
      canonical = record {
        are_rows = a.rows_ok;
        closed = λ p above.
            let low : ℤ = int_max p.v (pos 16383) in
            inverted-points_of rows p ∙ past_rows rows p.h p.v low above (omega (arith, ints, clamps)) ∙ pixels p.h low ∙ out p.h low (omega (arith, ints, clamps));
      };
      in_range = a.in_range;
    }

-- ---- rows that turn, one below the other

pub turned_once : (old new : List EdgeRow) (v : ℤ) (s : ℤ → Bool) → IsCoordinate v → IsPushed old new v s → AreTurnedFrom old new v v (λ h w. int_le v w && s h)
turned_once old new v s top p = record { pixels = pushed_pixel old new v s p; stacked = λ upto a l. stacked old new upto v s a l top p }

differ_twice : (a b c : Bool) → differ a (differ b c) ≡ differ (differ a b) c
differ_twice true true true = refl
differ_twice true true false = refl
differ_twice true false c = refl
differ_twice false b c = refl

pub turned_twice : (old mid new : List EdgeRow) (a b c d : ℤ) (f g : ℤ → ℤ → Bool) → AreTurnedFrom old mid a b f → b <ℤ c → AreTurnedFrom mid new c d g → AreTurnedFrom old new a d (λ h w. differ (g h w) (f h w))
turned_twice old mid new a b c d f g p l q =
    record {
      pixels = λ h w. q.pixels h w ∙ ap (differ (g h w)) (p.pixels h w) ∙ differ_twice (g h w) (f h w) (in_rows old h w);
      stacked = λ upto s m. q.stacked b (p.stacked upto s m) l;
    }

pub turned_as : (old new : List EdgeRow) (a b : ℤ) (f g : ℤ → ℤ → Bool) → AreTurnedFrom old new a b f → ((h w : ℤ) → f h w ≡ g h w) → AreTurnedFrom old new a b g
turned_as old new a b f g p e = record { pixels = λ h w. p.pixels h w ∙ (λ i. differ (e h w i) (in_rows old h w)); stacked = p.stacked }

tops_apart : (u l : Bool) (t v w : ℤ) → t <ℤ v → differ (int_le v w && (l && not u)) (int_le t w && u) ≡ ((u && int_le t w) || (l && int_le v w))
tops_apart true l t v w p = grind (arith, ints)
tops_apart false l t v w p = grind (arith, ints)

tops_alike : (u l : Bool) (t v w : ℤ) → t ≡ v → (int_le t w && (u || l)) ≡ ((u && int_le t w) || (l && int_le v w))
tops_alike true l t v w p = grind (arith, ints)
tops_alike false l t v w p = grind (arith, ints)

ends_apart : (u l : Bool) (t v w : ℤ) → t <ℤ v → differ (int_le v w && l) (int_le t w && (u && not l)) ≡ ((u || l) && not ((u && int_lt w t) || (l && int_lt w v)))
ends_apart true true t v w p = grind (arith, ints)
ends_apart true false t v w p = grind (arith, ints)
ends_apart false true t v w p = grind (arith, ints)
ends_apart false false t v w p = grind (arith, ints)

ends_alike : (u l : Bool) (t v w : ℤ) → t ≡ v → (int_le t w && (u || l)) ≡ ((u || l) && not ((u && int_lt w t) || (l && int_lt w v)))
ends_alike true true t v w p = grind (arith, ints)
ends_alike true false t v w p = grind (arith, ints)
ends_alike false true t v w p = grind (arith, ints)
ends_alike false false t v w p = grind (arith, ints)

-- the columns of the rectangle
abbrev pub run : Rect → Run
run r = record { left = r.left; right = r.right }

module _ (old mid new : List EdgeRow) (a b : Rect) (p : IsProper a) (q : IsProper b) (r s : Run) (of_a : r ≡ run a) (of_b : s ≡ run b) where
  one_run : (v : ℤ) → IsPushed old mid v (columns r) → IsPushed old mid v (across a)
  one_run v = subst (λ r. IsPushed old mid v (columns r)) of_a

  other_run : (v : ℤ) → IsPushed mid new v (columns s) → IsPushed mid new v (across b)
  other_run v = subst (λ s. IsPushed mid new v (columns s)) of_b

  one_alone : (v : ℤ) → IsPushed old mid v (alone r s) → IsPushed old mid v (alone (run a) (run b))
  one_alone v one = subst (λ r. IsPushed old mid v (alone r (run b))) of_a (subst (λ s. IsPushed old mid v (alone r s)) of_b one)

  other_alone : (v : ℤ) → IsPushed mid new v (alone s r) → IsPushed mid new v (alone (run b) (run a))
  other_alone v one = subst (λ s. IsPushed mid new v (alone s (run a))) of_b (subst (λ r. IsPushed mid new v (alone s r)) of_a one)

  both_runs : (v : ℤ) → IsPushed old new v (either r s) → IsPushed old new v (either (run a) (run b))
  both_runs v one = subst (λ r. IsPushed old new v (either r (run b))) of_a (subst (λ s. IsPushed old new v (either r s)) of_b one)

  pub begun_apart : a.top <ℤ b.top → IsPushed old mid a.top (columns r) → IsPushed mid new b.top (alone s r) → AreTurnedFrom old new a.top b.top (begun a b)
  begun_apart l one two =
      turned_as old new a.top b.top _ (begun a b) (turned_twice old mid new a.top a.top b.top b.top _ _ (turned_once old mid a.top _ p.top_in (one_run a.top one)) l (turned_once mid new b.top _ q.top_in (other_alone b.top two))) (λ h w. tops_apart (across a h) (across b h) a.top b.top w l)

  pub begun_alike : a.top ≡ b.top → IsPushed old new a.top (either r s) → AreTurnedFrom old new a.top b.top (begun a b)
  begun_alike e one =
      subst (λ v. AreTurnedFrom old new a.top v (begun a b)) e (turned_as old new a.top a.top _ (begun a b) (turned_once old new a.top _ p.top_in (both_runs a.top one)) (λ h w. tops_alike (across a h) (across b h) a.top b.top w e))

  pub gone_apart : a.bottom <ℤ b.bottom → IsPushed old mid a.bottom (alone r s) → IsPushed mid new b.bottom (columns s) → AreTurnedFrom old new a.bottom b.bottom (gone a b)
  gone_apart l one two =
      turned_as old new a.bottom b.bottom _ (gone a b) (turned_twice old mid new a.bottom a.bottom b.bottom b.bottom _ _ (turned_once old mid a.bottom _ p.bottom_in (one_alone a.bottom one)) l (turned_once mid new b.bottom _ q.bottom_in (other_run b.bottom two))) (λ h w. ends_apart (across a h) (across b h) a.bottom b.bottom w l)

  pub gone_alike : a.bottom ≡ b.bottom → IsPushed old new a.bottom (either r s) → AreTurnedFrom old new a.bottom b.bottom (gone a b)
  gone_alike e one =
      subst (λ v. AreTurnedFrom old new a.bottom v (gone a b)) e (turned_as old new a.bottom a.bottom _ (gone a b) (turned_once old new a.bottom _ p.bottom_in (both_runs a.bottom one)) (λ h w. ends_alike (across a h) (across b h) a.bottom b.bottom w e))

-- ---- from where two rectangles begin to where they end

none_of : (u l s t : Bool) → s ≡ false → t ≡ false → ((u && s) || (l && t)) ≡ false
none_of true true s t e f = (λ i. e i || f i)
none_of true false s t e f = (λ i. e i || false)
none_of false true s t e f = f
none_of false false s t e f = refl

between_ends : (u l : Bool) (t b v e w : ℤ) → t <ℤ b → v <ℤ e → v <ℤ b → t <ℤ e → differ ((u || l) && not ((u && int_lt w b) || (l && int_lt w e))) (differ ((u && int_le t w) || (l && int_le v w)) false) ≡ ((u && between t w b) || (l && between v w e))
between_ends true true t b v e w p q r s = grind (arith, ints)
between_ends true false t b v e w p q r s = grind (arith, ints)
between_ends false true t b v e w p q r s = grind (arith, ints)
between_ends false false t b v e w p q r s = grind (arith, ints)

gone_swapped : (u l x y : Bool) → ((l || u) && not ((l && y) || (u && x))) ≡ ((u || l) && not ((u && x) || (l && y)))
gone_swapped true true true true = refl
gone_swapped true true true false = refl
gone_swapped true true false true = refl
gone_swapped true true false false = refl
gone_swapped true false true y = refl
gone_swapped true false false y = refl
gone_swapped false true x true = refl
gone_swapped false true x false = refl
gone_swapped false false x y = refl

module _ (pair : Pair) (first rows : List EdgeRow) (p : IsPair pair) (one : AreTurnedFrom [] first pair.upper.top pair.lower.top (begun pair.upper pair.lower)) where
  pixels : (h w : ℤ) → in_rows rows h w ≡ differ (gone pair.upper pair.lower h w) (in_rows first h w) → in_rows rows h w ≡ pair_holds pair (record { h = h; v = w })
  pixels h w e =
      let m = p.first in
      let n = p.within in
      let d = p.lower.down in
      e ∙ ap (differ _) (one.pixels h w ∙ ap (differ _) (nil_has h w)) ∙ between_ends (across pair.upper h) (across pair.lower h) pair.upper.top pair.upper.bottom pair.lower.top pair.lower.bottom w p.upper.down p.lower.down p.within (omega (arith, ints))

  out : (h w : ℤ) → pos 16383 ≤ℤ w → pair_holds pair (record { h = h; v = w }) ≡ false
  out h w l =
      let a = p.upper.bottom_in.1 in
      let b = p.lower.bottom_in.1 in
      none_of (across pair.upper h) (across pair.lower h) (between pair.upper.top w pair.upper.bottom) (between pair.lower.top w pair.lower.bottom) (grind (arith, ints)) (grind (arith, ints))

  begun_stacked : AreStacked first pair.lower.top
  begun_stacked = one.stacked (pair.upper.top -ℤ pos 1) (none_stacked (pair.upper.top -ℤ pos 1)) (omega (arith, ints))

  -- the pixels, where the first one ends first
  pub upper_first : AreTurnedFrom first rows pair.upper.bottom pair.lower.bottom (gone pair.upper pair.lower) → (h w : ℤ) → in_rows rows h w ≡ pair_holds pair (record { h = h; v = w })
  upper_first e h w = pixels h w (e.pixels h w)

  pub lower_first : AreTurnedFrom first rows pair.lower.bottom pair.upper.bottom (gone pair.lower pair.upper) → (h w : ℤ) → in_rows rows h w ≡ pair_holds pair (record { h = h; v = w })
  lower_first e h w = pixels h w (e.pixels h w ∙ (λ i. differ (gone_swapped (across pair.upper h) (across pair.lower h) (int_lt w pair.upper.bottom) (int_lt w pair.lower.bottom) i) (in_rows first h w)))

  -- and they are rows of a region
  pub upper_rows : AreTurnedFrom first rows pair.upper.bottom pair.lower.bottom (gone pair.upper pair.lower) → AreRows rows
  upper_rows e = stacked_rows rows pair.lower.bottom (λ h w. pair_holds pair (record { h = h; v = w })) (e.stacked pair.lower.top begun_stacked p.within) (upper_first e) out

  pub lower_rows : AreTurnedFrom first rows pair.lower.bottom pair.upper.bottom (gone pair.lower pair.upper) → AreRows rows
  lower_rows e = stacked_rows rows pair.upper.bottom (λ h w. pair_holds pair (record { h = h; v = w })) (e.stacked pair.lower.top begun_stacked p.lower.down) (lower_first e) out

-- ---- the rectangle of two rows

pub proper_rect : (rows : List EdgeRow) (r : Rect) → AreRows rows → rows ≡ two_rows r → IsProper r
proper_rect rows r a e =
    let b : AreRows (two_rows r) = subst AreRows e a in
    let upper = b.in_range 0 (pos 0, []) (omega arith) in
    let lower = b.in_range 1 (pos 0, []) (omega arith) in
    record {
      left_in = upper.1 0 (pos 0) (omega arith);
      top_in = upper.0;
      right_in = upper.1 1 (pos 0) (omega arith);
      bottom_in = lower.0;
      across = (b.canonical.are_rows.each 0 (pos 0, []) (omega arith)).rising.rises 0 1 (omega arith) (omega arith);
      down = b.canonical.are_rows.rising.rises 0 1 (omega arith) (omega arith);
    }

-- the pair of two rectangles has the pixels of both, whichever comes first
pub swapped_pair : (a b : List EdgeRow) (first second : Rect) (found : Option Pair) → ((h v : ℤ) → in_rows a h v ≡ rect_holds first (record { h = h; v = v })) → ((h v : ℤ) → in_rows b h v ≡ rect_holds second (record { h = h; v = v })) → IfSome found (λ pair. (pair.upper ≡ second) × (pair.lower ≡ first)) → IfSome found (λ pair. (h v : ℤ) → pair_holds pair (record { h = h; v = v }) ≡ (in_rows a h v || in_rows b h v))
swapped_pair a b first second (Some pair) p q same =
    λ h v. (λ i. rect_holds (same.0 i) (record { h = h; v = v }) || rect_holds (same.1 i) (record { h = h; v = v })) ∙ either_first (rect_holds second (record { h = h; v = v })) (rect_holds first (record { h = h; v = v })) ∙ sym (λ i. p h v i || q h v i)
  where
    either_first : (x y : Bool) → (x || y) ≡ (y || x)
    either_first true true = refl
    either_first true false = refl
    either_first false true = refl
    either_first false false = refl
swapped_pair a b first second None p q same = same
