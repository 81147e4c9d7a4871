-- Lines of a window, moved to where it lies on the screen.
use Rattle.std.proofs.Common.{◌≡◌, ℕ, zero, suc, ◌<◌, ◌≤◌, ◌+◌, Bool, true, false, ◌&&◌, ◌||◌, if◌then◌else◌, List, [], ◌∷◌, ◌++◌, get_or, set, take, length, map, Some, Result, Ok, Err, refl, sym, ap, ◌∙◌, arith}
use Rattle.std.specs.Prelude.{MatchResult, IfOk, IfErr, is_ok}
use Rattle.std.specs.List.{list_all}
use Rattle.std.proofs.lemmas.List.{take_all, take_more_set, map_more}
use Rattle.std.proofs.lemmas.List.Folds.{list_all-append}
use Rattle.tb_geom.specs.declared.point.Point.{Point}
use Rattle.tb_geom.specs.declared.rect.Rect.{Rect}
use Rattle.tb_geom.specs.declared.refusal.Refusal.{Refusal}
use Rattle.tb_geom.specs.declared.refusal.Refusal.TheVariants.{OutOfRange}
use Rattle.tb_geom.specs.Points.{plus, minus}
use Rattle.tb_geom.specs.Rects.{rect_holds, is_empty_rect, empty_rect, is_in_range, moved_rect}
use Rattle.tb_geom.proofs.RectLemmas.{holds_none, holds-moved}
use Rattle.draw_port.specs.Ops.{frame_holds}
use Rattle.def_iface.specs.Lines.{AreApart, line_holds, frame_lines}
use Rattle.def_iface.proofs.LineLemmas.{frame_pixels}
use Rattle.desk_call.specs.declared.outline.SizeLimits.{SizeLimits}
use Rattle.vis_update.specs.Records.{WindowRecord}
use Rattle.window_mgr.specs.FullDesk.{FullDesk}
use Rattle.window_outline.specs.Outlining.{drag_lines, grow_lines, grown, in_gray, no_lines, moved_line, moved_lines}

-- the pixels of lines of a window on the screen are theirs in the window
line_moved : (place : Point) (r : Rect) (p : Point) → rect_holds (moved_line place r) p ≡ rect_holds r (minus p place)
line_moved place r p = by_test (is_empty_rect r) refl
  where
    by_test : (b : Bool) → is_empty_rect r ≡ b → rect_holds (if b then empty_rect else moved_rect r place.h place.v) p ≡ rect_holds r (minus p place)
    by_test true e = holds_none empty_rect refl p ∙ sym (holds_none r e (minus p place))
    by_test false e = holds-moved r place.h place.v p

lines_moved : (place : Point) (lines : List Rect) (p : Point) → line_holds (moved_lines place lines) p ≡ line_holds lines (minus p place)
lines_moved place [] p = refl
lines_moved place (r ∷ rs) p = λ i. line_moved place r p i || lines_moved place rs p i

-- so they share no pixel either
pub moved_apart : (place : Point) (lines : List Rect) → AreApart lines → AreApart (moved_lines place lines)
moved_apart place [] apart = tt
moved_apart place (r ∷ rs) apart =
    (λ p e. lines_moved place rs p ∙ apart.0 (minus p place) (sym (line_moved place r p) ∙ e), moved_apart place rs apart.1)

-- so is the outline of a dragged window a moved frame
pub dragged_pixels : (desk : FullDesk) (w : WindowRecord) (from to p : Point) → in_gray desk to ≡ true
    → line_holds (drag_lines desk (Some w) from to) p ≡ frame_holds (w.definition.bounds w.size) (minus p (plus w.place (minus to from)))
dragged_pixels desk w from to p on =
    let place = plus w.place (minus to from) in
    let frame = frame_lines (w.definition.bounds w.size) in
    ap (λ b. line_holds (if b then moved_lines place frame else no_lines) p) on
    ∙ lines_moved place frame p ∙ frame_pixels (w.definition.bounds w.size) (minus p place)

-- and that of a window that is grown its definition's lines
pub grown_pixels : (limits : SizeLimits) (w : WindowRecord) (from to p : Point)
    → line_holds (grow_lines limits (Some w) from to) p ≡ line_holds (w.definition.grow_lines (grown limits w.size (minus to from))) (minus p w.place)
grown_pixels limits w from to p = lines_moved w.place (w.definition.grow_lines (grown limits w.size (minus to from))) p

-- where one line leaves the range, not all lie in it
pub not_all : (place : Point) (lines : List Rect) (i : ℕ) (d : Rect) → i < length lines → is_in_range (moved_line place (get_or lines i d)) ≡ false → list_all is_in_range (moved_lines place lines) ≡ false
not_all place [] i d low e = absurd (omega arith)
not_all place (r ∷ rs) zero d low e = ap (λ b. b && list_all is_in_range (moved_lines place rs)) e
not_all place (r ∷ rs) (suc i) d low e = ap (λ b. is_in_range (moved_line place r) && b) (not_all place rs i d (omega arith) e) ∙ none_of (is_in_range (moved_line place r))
  where
    none_of : (b : Bool) → (b && false) ≡ false
    none_of true = refl
    none_of false = refl

-- a line that has pixels is moved as a rectangle is
pub moved_or_not : (place : Point) (line : Rect) (result : Result Rect Refusal) → is_empty_rect line ≡ false
    → IfOk result (λ r. r ≡ moved_rect line place.h place.v) → is_ok result ≡ is_in_range (moved_rect line place.h place.v) → IfErr result (λ e. e ≡ OutOfRange)
    → MatchResult result (λ moved. (moved ≡ moved_line place line) × (is_in_range (moved_line place line) ≡ true)) (λ e. (is_in_range (moved_line place line) ≡ false) × (e ≡ OutOfRange))
moved_or_not place line result some sides within refused = by_result result sides within refused
  where
    is : moved_line place line ≡ moved_rect line place.h place.v
    is = ap (λ b. if b then empty_rect else moved_rect line place.h place.v) some

    by_result : (r : Result Rect Refusal) → IfOk r (λ moved. moved ≡ moved_rect line place.h place.v) → is_ok r ≡ is_in_range (moved_rect line place.h place.v) → IfErr r (λ e. e ≡ OutOfRange)
        → MatchResult r (λ moved. (moved ≡ moved_line place line) × (is_in_range (moved_line place line) ≡ true)) (λ e. (is_in_range (moved_line place line) ≡ false) × (e ≡ OutOfRange))
    by_result (Ok moved) same fits none = (same ∙ sym is, ap is_in_range is ∙ sym fits)
    by_result (Err e) same fits none = (ap is_in_range is ∙ sym fits, none)

-- one line more
pub one_more : (place : Point) (lines moved : List Rect) (i : ℕ) (d line : Rect) → i < length lines → i < length moved → take i moved ≡ map (moved_line place) (take i lines) → line ≡ moved_line place (get_or lines i d)
    → take (i + 1) (set moved i line) ≡ map (moved_line place) (take (i + 1) lines)
one_more place lines moved i d line low low_moved same is =
    take_more_set moved i line low_moved ∙ (λ k. same k ++ is k ∷ []) ∙ sym (map_more (moved_line place) lines i d low)

pub one_more_in : (moved : List Rect) (i : ℕ) (line : Rect) → i < length moved → list_all is_in_range (take i moved) ≡ true → is_in_range line ≡ true → list_all is_in_range (take (i + 1) (set moved i line)) ≡ true
one_more_in moved i line low within fits =
    ap (list_all is_in_range) (take_more_set moved i line low) ∙ list_all-append is_in_range (take i moved) (line ∷ []) ∙ (λ k. within k && (fits k && true))

-- and all of them
pub moved_whole : (place : Point) (lines moved : List Rect) (i : ℕ) → length moved ≤ i → length lines ≤ i → take i moved ≡ map (moved_line place) (take i lines) → moved ≡ moved_lines place lines
moved_whole place lines moved i all_moved all same = sym (take_all i moved all_moved) ∙ same ∙ ap (map (moved_line place)) (take_all i lines all)
