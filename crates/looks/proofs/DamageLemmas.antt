-- Looks that are equal outside the box of the steps that differ.
use Rattle.std.proofs.Common.{◌≡◌, ℕ, zero, suc, ◌+◌, ◌<◌, Bool, true, false, not, cond, ◌&&◌, ◌||◌, if◌then◌else◌, List, [], ◌∷◌, length, take, get_or, refl, sym, ap, ◌∙◌, arith}
use Rattle.std.proofs.lemmas.List.Sums.{fold_more}
use Rattle.tb_geom.specs.declared.point.Point.{Point}
use Rattle.tb_geom.specs.declared.rect.Rect.{Rect}
use Rattle.std.proofs.lemmas.Bool.{and_parts}
use Rattle.tb_geom.specs.Rects.{is_in_range, rect_holds, IsBoxOf, is_empty_rect, empty_rect, shared_rect, rect_around}
use Rattle.tb_geom.proofs.RectLemmas.{holds_none, holds-around, holds-shared}
use Rattle.draw_port.specs.Ops.{frame_holds, is_end}
use Rattle.shape_strips.specs.declared.corner.Corner.{Corner}
use Rattle.shape_strips.specs.Ovals.{in_oval}
use Rattle.shape_strips.specs.Rounds.{round_holds, fitted, across, down}
use Rattle.shape_strips.specs.Frames.{inside_holds, inset_rect, inset_corner, surrounds}
use Rattle.looks.specs.declared.rounded.Rounded.{Rounded}
use Rattle.looks.specs.Rounded.{rounded_holds, one_pixel}
use Rattle.looks.specs.declared.step.Step.{Step}
use Rattle.looks.specs.declared.step.Mark.{Mark}
use Rattle.looks.specs.declared.step.Mark.TheVariants.{Fill, Frame, Behind, Text, Cross, Round}
use Rattle.looks.specs.Same.{shows_text}
use Rattle.looks.specs.Damages.{IsWithin, joined, draws_alike, look_damage, mark_reach, step_reach}
use Rattle.looks.specs.Marks.{look_bit, step_value, step_holds, mark_holds, mark_value, cross_holds, on_diagonals}
use Rattle.looks.specs.Letters.{Lettering}

-- a pixel outside the box around two rectangles is outside both
pub outside_both : (r a b : Rect) → IsBoxOf r (λ p. rect_holds a p || rect_holds b p) → (p : Point) → rect_holds r p ≡ false → (rect_holds a p ≡ false) × (rect_holds b p ≡ false)
outside_both r a b exact p out = each (rect_holds a p) (rect_holds b p) (exact.holds p)
  where
    each : (x y : Bool) → ((x || y) ≡ true → rect_holds r p ≡ true) → (x ≡ false) × (y ≡ false)
    each false false e = (refl, refl)
    each true y e = let t = e refl in absurd (cc)
    each false true e = let t = e refl in absurd (cc)

-- a step leaves a pixel that it does not draw
pub step_outside : (t : Lettering) → (p : Point) (d : Bool) (s : Step) → step_holds t s p ≡ false → step_value t p d s ≡ d
step_outside t p d s none = ap (λ b. cond b (mark_value s.mark p d) d) none

-- a step that is off draws no pixel
pub none_off : (t : Lettering) (s : Step) (p : Point) → s.on ≡ false → step_holds t s p ≡ false
unfolding step_holds
none_off t s p off = ap (λ b. b && (rect_holds s.cut p && mark_holds t s.mark p)) off

-- nor does one outside its cut
pub none_cut_off : (t : Lettering) (s : Step) (p : Point) → rect_holds s.cut p ≡ false → step_holds t s p ≡ false
unfolding step_holds
none_cut_off t s p out = ap (λ b. s.on && (b && mark_holds t s.mark p)) out ∙ each s.on
  where
    each : (on : Bool) → (on && false) ≡ false
    each true = refl
    each false = refl

-- nor outside what its cut shares with a rectangle around the pixels of its mark
pub none_off_mark : (t : Lettering) (s : Step) (r : Rect) (p : Point) → (mark_holds t s.mark p ≡ true → rect_holds r p ≡ true)
    → (rect_holds s.cut p && rect_holds r p) ≡ false → step_holds t s p ≡ false
unfolding step_holds
none_off_mark t s r p around out = each s.on (rect_holds s.cut p) (mark_holds t s.mark p) around out
  where
    each : (on cut mark : Bool) → (mark ≡ true → rect_holds r p ≡ true) → (cut && rect_holds r p) ≡ false
        → (on && (cut && mark)) ≡ false
    each false cut mark around out = refl
    each true false mark around out = refl
    each true true false around out = refl
    each true true true around out = sym (around refl) ∙ out

-- a frame lies in its rectangle
pub frame_in : (r : Rect) (p : Point) → frame_holds r p ≡ true → rect_holds r p ≡ true
frame_in r p e = first (rect_holds r p) (is_end r.left p.h r.right || is_end r.top p.v r.bottom) e
  where
    first : (a b : Bool) → (a && b) ≡ true → a ≡ true
    first true b e = refl
    first false b e = absurd (cc)

-- a pixel of the diagonals lies in the rectangle
pub cross_in : (r : Rect) (p : Point) → cross_holds r p ≡ true → rect_holds r p ≡ true
cross_in r p e = first (rect_holds r p) (on_diagonals r p) e
  where
    first : (a b : Bool) → (a && b) ≡ true → a ≡ true
    first true b e = refl
    first false b e = absurd (cc)

-- nor does a rectangle with rounded corners reach past it
pub rounded_in : (r : Rounded) (p : Point) → rounded_holds r p ≡ true → rect_holds r.rect p ≡ true
unfolding rounded_holds round_holds
rounded_in r p e = by_part r.inside (and_parts (is_in_range r.rect) (if r.inside then inside_holds r.rect r.corner one_pixel p else round_holds r.rect r.corner p) e).1
  where
    oval : Corner
    oval = fitted r.rect r.corner

    whole : round_holds r.rect r.corner p ≡ true → rect_holds r.rect p ≡ true
    whole f = (and_parts (rect_holds r.rect p) (in_oval oval.width oval.height (across r.rect oval p.h) (down r.rect oval p.v)) f).0

    by_part : (t : Bool) → (if t then inside_holds r.rect r.corner one_pixel p else round_holds r.rect r.corner p) ≡ true → rect_holds r.rect p ≡ true
    by_part true f = whole (and_parts (round_holds r.rect r.corner p) _ (and_parts (round_holds (inset_rect r.rect one_pixel) (inset_corner r.corner one_pixel) p) (surrounds (round_holds r.rect r.corner) p) f).1).0
    by_part false f = whole f

-- one step more of each look
pub same-more : (u t : Lettering) (p : Point) (old new : List Step) (k : ℕ) (a b : Step) → k < length old → k < length new
    → look_bit t (take k new) p ≡ look_bit u (take k old) p
    → ((d : Bool) → step_value t p d (get_or new k b) ≡ step_value u p d (get_or old k a))
    → look_bit t (take (k + 1) new) p ≡ look_bit u (take (k + 1) old) p
same-more u t p old new k a b h g before one =
    fold_more (step_value t p) false new k b g
    ∙ one (look_bit t (take k new) p)
    ∙ ap (λ d. step_value u p d (get_or old k a)) before
    ∙ sym (fold_more (step_value u p) false old k a h)

-- steps that are the same draw alike where the texts are the same, or they do not stand by the text
pub alike : (old new : Step) (same : Bool) (u t : Lettering) (p : Point) (d : Bool) → old ≡ new → (same || not (shows_text old.mark)) ≡ true → (same ≡ true → t ≡ u) → step_value t p d new ≡ step_value u p d old
unfolding step_holds
alike old new true u t p d e k is = ap (λ s. step_value t p d s) (sym e) ∙ ap (λ w. step_value w p d old) (is refl)
alike old new false u t p d e k is = ap (λ s. step_value t p d s) (sym e) ∙ ap (λ b. cond (old.on && (rect_holds old.cut p && b)) (mark_value old.mark p d) d) (by_mark old.mark k)
  where
    by_mark : (m : Mark) → not (shows_text m) ≡ true → mark_holds t m p ≡ mark_holds u m p
    by_mark (Fill r s) k = refl
    by_mark (Frame r s) k = refl
    by_mark (Cross r) k = refl
    by_mark (Round r s) k = refl
    by_mark (Behind plate) k = absurd (cc)
    by_mark (Text place) k = absurd (cc)

-- ---- how small the damage is

-- a rectangle around two has the pixels of both
pub joined_holds : (a b : Rect) (p : Point) → (rect_holds a p || rect_holds b p) ≡ true → rect_holds (joined a b) p ≡ true
unfolding joined
joined_holds a b p e = by_tests (is_empty_rect a) (is_empty_rect b) refl refl
  where
    no_first : (x y : Bool) → x ≡ false → (x || y) ≡ true → y ≡ true
    no_first false y f g = g
    no_first true y f g = absurd (cc)

    no_second : (x y : Bool) → y ≡ false → (x || y) ≡ true → x ≡ true
    no_second true y f g = refl
    no_second false y f g = absurd (cc)

    by_tests : (x y : Bool) → is_empty_rect a ≡ x → is_empty_rect b ≡ y → rect_holds (if x then b else (if y then a else rect_around a b)) p ≡ true
    by_tests true y f g = no_first (rect_holds a p) (rect_holds b p) (holds_none a f p) e
    by_tests false true f g = no_second (rect_holds a p) (rect_holds b p) (holds_none b g p) e
    by_tests false false f g = holds-around a b p e

either : (x y : Bool) → x ≡ true → (x || y) ≡ true
either true y e = refl
either false y e = absurd (cc)

other : (x y : Bool) → y ≡ true → (x || y) ≡ true
other true y e = refl
other false y e = e

pub in_first : (a b : Rect) → IsWithin a (joined a b)
in_first a b p e = joined_holds a b p (either (rect_holds a p) (rect_holds b p) e)

pub in_second : (a b : Rect) → IsWithin b (joined a b)
in_second a b p e = joined_holds a b p (other (rect_holds a p) (rect_holds b p) e)

-- the box of two rectangles lies within each that both lie within
pub box_within : (r a b q : Rect) → IsBoxOf r (λ p. rect_holds a p || rect_holds b p) → IsWithin a q → IsWithin b q → IsWithin r q
box_within r a b q exact one two = exact.smallest q (λ p e. by_test (rect_holds a p) (rect_holds b p) (one p) (two p) e)
  where
    by_test : (x y : Bool) {z : Bool} → (x ≡ true → z ≡ true) → (y ≡ true → z ≡ true) → (x || y) ≡ true → z ≡ true
    by_test true y f g e = f refl
    by_test false y f g e = g e

-- what a step that is on reaches, by its mark
pub reach_on : (s : Step) (m : Mark) (p : Point) → s.on ≡ true → s.mark ≡ m → rect_holds (step_reach s) p ≡ rect_holds (mark_reach s.cut m) p
unfolding step_reach
reach_on s m p on is = ap (λ b. rect_holds (if b then mark_reach s.cut s.mark else empty_rect) p) on ∙ ap (λ k. rect_holds (mark_reach s.cut k) p) is

-- and one that is off
pub reach_off : (s : Step) (r : Rect) (p : Point) → r ≡ empty_rect → s.on ≡ false → rect_holds r p ≡ rect_holds (step_reach s) p
unfolding step_reach
reach_off s r p is off = ap (λ q. rect_holds q p) is ∙ sym (ap (λ b. rect_holds (if b then mark_reach s.cut s.mark else empty_rect) p) off)

-- a mark in a rectangle
pub reach_rect : (s : Step) (m : Mark) (cut r shared : Rect) (p : Point) → s.on ≡ true → s.mark ≡ m → mark_reach s.cut m ≡ shared_rect cut r
    → rect_holds shared p ≡ (rect_holds cut p && rect_holds r p) → rect_holds shared p ≡ rect_holds (step_reach s) p
reach_rect s m cut r shared p on is its both = both ∙ sym (holds-shared cut r p) ∙ ap (λ q. rect_holds q p) (sym its) ∙ sym (reach_on s m p on is)

-- the damage of two looks has what their steps reach that do not draw alike
pub reached : (same : Bool) (old new : List Step) (k : ℕ) (a b : Step) → k < length old → k < length new → draws_alike same (get_or old k a) (get_or new k b) ≡ false
    → IsWithin (step_reach (get_or old k a)) (look_damage same old new) × IsWithin (step_reach (get_or new k b)) (look_damage same old new)
unfolding look_damage
reached same [] new k a b low high differ = absurd (omega arith)
reached same (x ∷ xs) [] k a b low high differ = absurd (omega arith)
reached same (x ∷ xs) (y ∷ ys) zero a b low high differ =
    let both = joined (step_reach x) (step_reach y) in
    rw differ (
      λ p e. in_first both (look_damage same xs ys) p (in_first (step_reach x) (step_reach y) p e),
      λ p e. in_first both (look_damage same xs ys) p (in_second (step_reach x) (step_reach y) p e),
    )
reached same (x ∷ xs) (y ∷ ys) (suc k) a b low high differ = by_test (draws_alike same x y) (reached same xs ys k a b (omega arith) (omega arith) differ)
  where
    by_test : (t : Bool) → IsWithin (step_reach (get_or xs k a)) (look_damage same xs ys) × IsWithin (step_reach (get_or ys k b)) (look_damage same xs ys)
        → IsWithin (step_reach (get_or xs k a)) (if t then look_damage same xs ys else joined (joined (step_reach x) (step_reach y)) (look_damage same xs ys))
        × IsWithin (step_reach (get_or ys k b)) (if t then look_damage same xs ys else joined (joined (step_reach x) (step_reach y)) (look_damage same xs ys))
    by_test true rest = rest
    by_test false rest = (
      λ p f. in_second (joined (step_reach x) (step_reach y)) (look_damage same xs ys) p (rest.0 p f),
      λ p f. in_second (joined (step_reach x) (step_reach y)) (look_damage same xs ys) p (rest.1 p f),
    )

-- nothing lies in the empty rectangle
pub nothing_within : (d r : Rect) → d ≡ empty_rect → IsWithin d r
nothing_within d r is p e = absurd (cc (e, ap (λ q. rect_holds q p) is ∙ holds_none empty_rect refl p))
