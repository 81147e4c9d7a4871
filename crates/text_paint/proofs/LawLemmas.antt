-- What the definition of what shows implies.
use Rattle.std.proofs.Common.{◌≡◌, ℕ, suc, ◌<◌, Bool, true, false, not, cond, ◌&&◌, ◌||◌, List, refl, arith}
use Rattle.std.proofs.lemmas.Bool.{lt-ltb}
use Rattle.std.proofs.lemmas.Int.{ints}
use Rattle.tb_geom.specs.declared.point.Point.{Point}
use Rattle.tb_geom.specs.declared.rect.Rect.{Rect}
use Rattle.tb_geom.specs.Rects.{rect_holds}
use Rattle.tb_geom.proofs.RectLemmas.{sides_of, holds_in}
use Rattle.text_record.specs.Placings.{widened, box_of}
use Rattle.text_record.specs.Texts.{Record}
use Rattle.text_record.specs.Changes.{chosen, blinked}
use Rattle.text_paint.specs.declared.selected.Selection.{Selection}
use Rattle.text_paint.specs.Selected.{is_toggled, reselected}
use Rattle.text_paint.specs.Shown.{some_line, part_holds, inset, view_bit, is_inverted, with_lines, frame_holds, text_shown}
use Rattle.text_paint.proofs.PartLemmas.{none_before}

-- a box has what its view has
in_box : (framed : Bool) (view : Rect) (p : Point) → rect_holds view p ≡ true → rect_holds (box_of framed view) p ≡ true
in_box false view p e = e
in_box true view p e =
    let at = sides_of view p e in
    holds_in (widened view) p (omega (arith, ints, at.left)) (omega (arith, ints, at.right)) (omega (arith, ints, at.top)) (omega (arith, ints, at.bottom))

outside : (view box framed inner text : Bool) → (view ≡ true → box ≡ true) → box ≡ false → cond view text (framed && (box && not inner)) ≡ false
outside true box framed inner text within out = absurd (cc (within refl))
outside false box true inner text within out = rw out refl
outside false box false inner text within out = refl

pub white_outside : (font : List ℕ) (r : Record) (p : Point) → rect_holds (box_of r.framed r.view) p ≡ false → text_shown font r p ≡ false
white_outside font r p out =
    outside (rect_holds r.view p) (rect_holds (box_of r.framed r.view) p) r.framed (rect_holds (inset (box_of r.framed r.view)) p) (view_bit font r p) (in_box r.framed r.view p) out

pub apart : (r : Record) (j k : ℕ) (p : Point) → j < k → part_holds r k p ≡ true → part_holds r j p ≡ false
apart r j k p less e = first_none (part_holds r j p) (some_line j (λ i. part_holds r i p)) (none_before r k (suc j) p less e)
  where
    first_none : (a b : Bool) → (a || b) ≡ false → a ≡ false
    first_none true b e = e
    first_none false b e = refl

pub no_selection : (font : List ℕ) (r : Record) (start end : ℕ) (p : Point) → r.active ≡ false → text_shown font (chosen start end r) p ≡ text_shown font r p
no_selection font r start end p e = rw e refl

pub no_caret : (font : List ℕ) (r : Record) (caret : Bool) (p : Point) → r.active ≡ false → text_shown font (blinked caret r) p ≡ text_shown font r p
no_caret font r caret p e = rw e refl

pub no_caret_beside : (font : List ℕ) (r : Record) (caret : Bool) (p : Point) → r.start < r.end → text_shown font (blinked caret r) p ≡ text_shown font r p
no_caret_beside font r caret p l = rw (lt-ltb r.start r.end l) refl

-- what two selections invert of a bit of the view
turned : (view was is x frame : Bool) → cond view (cond is (not x) x) frame ≡ cond (view && cond was (not is) is) (not (cond view (cond was (not x) x) frame)) (cond view (cond was (not x) x) frame)
turned false was is x frame = refl
turned true false false x frame = refl
turned true false true x frame = refl
turned true true false true frame = refl
turned true true false false frame = refl
turned true true true x frame = refl

pub toggled_shown : (font : List ℕ) (r : Record) (s : Selection) (p : Point) → text_shown font r p ≡ cond (is_toggled s r p) (not (text_shown font (reselected s r) p)) (text_shown font (reselected s r) p)
toggled_shown font r s p = turned (rect_holds r.view p) (is_inverted (reselected s r) p) (is_inverted r p) (with_lines font r p false) (frame_holds r p)
