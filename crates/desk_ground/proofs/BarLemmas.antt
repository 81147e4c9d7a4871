-- One title after another.
use Rattle.std.proofs.Common.{◌≡◌, ℕ, ◌+◌, ◌≤◌, ℤ, pos, negsuc, not, arith, Bool, true, false, ◌&&◌, if◌then◌else◌, None, List, [], ◌∷◌, ◌++◌, take, refl, sym, ap, ◌∙◌}
use Rattle.tb_geom.specs.declared.point.Point.{Point}
use Rattle.std.specs.Prelude.{int_lt}
use Rattle.std.specs.Ordering.{int_eq}
use Rattle.std.proofs.lemmas.Int.{ints}
use Rattle.std.proofs.lemmas.Bool.Decides.{nat_tests}
use Rattle.tb_geom.specs.Points.{PixelSet, minus}
use Rattle.tb_geom.specs.Rects.{rect_holds, between}
use Rattle.bit_map.specs.Bits.{Bits, on_map, is_below}
use Rattle.bit_blit.specs.Draws.{Draws}
use Rattle.bit_blit.proofs.DrawsLemmas.{Draws-over, Draws-same}
use Rattle.draw_port.specs.declared.canvas.Canvas.{Canvas}
use Rattle.draw_port.specs.Ops.{shade_value}
use Rattle.scan_region.specs.declared.cut.Cut.{Cut}
use Rattle.scan_region.specs.Cuts.{cut_holds}
use Rattle.std.specs.Borrow.{Bor}
use Rattle.std.proofs.lemmas.Bool.{and_parts}
use Rattle.tb_geom.specs.declared.rect.Rect.{Rect}
use Rattle.tb_geom.proofs.PointLemmas.{minus-origin}
use Rattle.desk_ground.proofs.GroundLemmas.{pattern_bit-black}
use Rattle.draw_port.specs.Canvases.{canvas_holds, canvas_point, SameFrame}
use Rattle.looks.specs.declared.step.Step.{Step}
use Rattle.looks.specs.Letters.{lettering}
use Rattle.looks.specs.Lettered.{lettered_value}
use Rattle.looks.specs.Marks.{look_bit, black_fill, box, step_holds, all_black}
use Rattle.looks.proofs.PaintLemmas.{twice, frame_steps}
use Rattle.desk_ground.specs.declared.titles.BarTitle.{BarTitle}
use Rattle.desk_ground.specs.Bars.{title_width, title_steps, titles_value, bar_picture}

-- the column after titles that begin at a column
abbrev pub columns : List ℕ → ℕ → List BarTitle → ℕ
columns font left [] = left
columns font left (t ∷ ts) = columns font (left + title_width font t) ts

pub columns-more : (font : List ℕ) (left : ℕ) (ts : List BarTitle) (t : BarTitle) → columns font left (ts ++ t ∷ []) ≡ columns font left ts + title_width font t
columns-more font left [] t = refl
columns-more font left (s ∷ ts) t = columns-more font (left + title_width font s) ts t

titles_value-more : (font : List ℕ) (left : ℕ) (ts : List BarTitle) (t : BarTitle) (p : Point) (d : Bool)
    → titles_value font left (ts ++ t ∷ []) p d ≡ lettered_value font (title_steps (columns font left ts) (title_width font t) t) p (titles_value font left ts p d)
titles_value-more font left [] t p d = refl
titles_value-more font left (s ∷ ts) t p d = titles_value-more font (left + title_width font s) ts t p (lettered_value font (title_steps left (title_width font s) s) p d)

-- one title more
pub titles-more : (c d : Canvas) (titles : List BarTitle) (k left width : ℕ) (t : BarTitle) (first middle last : Bits)
    → take (k + 1) titles ≡ take k titles ++ t ∷ []
    → left ≡ columns c.font.now 10 (take k titles) → width ≡ title_width c.font.now t
    → SameFrame c d
    → Draws (canvas_holds c) (λ p old. titles_value c.font.now 10 (take k titles) (canvas_point c p) old) first middle
    → Draws (canvas_holds d) (λ p old. lettered_value d.font.now (title_steps left width t) (canvas_point d p) old) middle last
    → Draws (canvas_holds c) (λ p old. titles_value c.font.now 10 (take (k + 1) titles) (canvas_point c p) old) first last
titles-more c d titles k left width t first middle last one at wide same drawn over =
    let font = c.font.now in
    Draws-over (canvas_holds c) (canvas_holds c) (canvas_holds c) _ (λ p old. lettered_value font (title_steps left width t) (canvas_point c p) old) _ first middle last
    (λ p old on. twice (canvas_holds c p) (λ b. lettered_value font (title_steps left width t) (canvas_point c p) b)
    (titles_value font 10 (take k titles) (canvas_point c p) old) (titles_value font 10 (take (k + 1) titles) (canvas_point c p) old) old
    (ap (λ ts. titles_value font 10 ts (canvas_point c p) old) one ∙ titles_value-more font 10 (take k titles) t (canvas_point c p) old
    ∙ (λ i. lettered_value font (title_steps (sym at i) (sym wide i) t) (canvas_point c p) (titles_value font 10 (take k titles) (canvas_point c p) old))))
    drawn
    (Draws-same _ _ _ _ middle last (λ p old on. frame_steps c d (title_steps left width t) p old same) over)

-- a canvas of the same frame has the same font
pub font_stays : (c d : Canvas) (t : BarTitle) → SameFrame c d → title_width d.font.now t ≡ title_width c.font.now t
font_stays c d t f = λ i. title_width ((f.font i).now) t

-- ---- the whole bar

across : (h : ℤ) (limit : ℕ) → is_below limit h ≡ true → limit ≤ 1024 → between (pos 0) h (pos 1024) ≡ true
across (pos n) limit on few = grind (arith, ints, nat_tests)
across (negsuc n) limit on few = absurd (cc)

down : (v rows : ℤ) (limit : ℕ) → is_below limit v ≡ true → between (pos 0) v rows ≡ int_lt v rows
down (pos n) rows limit on = grind (arith, ints, nat_tests)
down (negsuc n) rows limit on = absurd (cc)

last_row : (v : ℤ) → between (pos 19) v (pos 20) ≡ int_eq v (pos 19)
last_row v = grind (arith, ints)

-- a pixel of the map is the bar's where its row is above the rows below the bar
in_rows : (m : Bits) (rows : ℤ) (p : Point) → m.width ≤ 1024 → on_map m p ≡ true
    → (between (pos 0) p.h (pos 1024) ≡ true) × (rect_holds (box (pos 0) (pos 0) (pos 1024) rows) p ≡ int_lt p.v rows)
unfolding on_map
in_rows m rows p few on =
    let o = and_parts _ _ on in
    let h = across p.h m.width o.0 few in
    (h, ap (λ b. b && between (pos 0) p.v rows) h ∙ down p.v rows m.height o.1)

-- the bar without titles: its last row is black
plain_bar : (font : List ℕ) (p : Point) → between (pos 0) p.h (pos 1024) ≡ true
    → look_bit (lettering font []) (black_fill (box (pos 0) (pos 19) (pos 1024) (pos 20)) ∷ []) p ≡ int_eq p.v (pos 19)
unfolding step_holds
plain_bar font p h =
    let e : rect_holds (box (pos 0) (pos 19) (pos 1024) (pos 20)) p ≡ int_eq p.v (pos 19) = ap (λ b. b && between (pos 19) p.v (pos 20)) h ∙ last_row p.v in
    ap (λ b. if true && (b && b) then shade_value all_black p false else false) e ∙ by_black (int_eq p.v (pos 19)) (shade_value all_black p false) (pattern_bit-black p)
  where
    by_black : (b x : Bool) → x ≡ true → (if true && (b && b) then x else false) ≡ b
    by_black true x e = e
    by_black false x e = refl

-- a cut that takes nothing away
abbrev pub whole : Cut
whole = record { inside = None ∷ None ∷ None ∷ []; outside = None }

whole_cut : (b : Bool) → (b && ((true && (true && (true && true))) && not false)) ≡ b
whole_cut true = refl
whole_cut false = refl

-- the ground of the bar, and then its titles, draw it
pub bar_drawn : (titles shown : List BarTitle) (step : Step) (rows : ℤ) (clip : Rect) (at : Point) (cut : Bor Cut) (font : Bor (List ℕ)) (d : Canvas) (first middle last end : Bits)
    → shown ≡ titles → step ≡ black_fill (box (pos 0) (pos 19) (pos 1024) (pos 20))
    → first.width ≤ 1024 → end ≡ last
    → clip ≡ box (pos 0) (pos 0) (pos 1024) rows → at ≡ record { h = pos 0; v = pos 0 } → cut.now ≡ whole
    → d.clip ≡ clip → d.origin ≡ at → d.cut ≡ cut → d.font ≡ font
    → Draws (λ p. rect_holds clip p && cut_holds cut.now p) (λ p _. look_bit (lettering font.now []) (step ∷ []) (minus p at)) first middle
    → Draws (canvas_holds d) (λ p x. titles_value d.font.now 10 shown (canvas_point d p) x) middle last
    → Draws (λ p. int_lt p.v rows) (λ p _. bar_picture font.now titles p) first end
unfolding cut_holds
bar_drawn titles shown step rows clip at cut font d first middle last end is_shown is_step few is is_clip is_at is_whole same_clip same_origin same_cut same_font ground over = rw is (
    Draws-over _ _ (λ p. int_lt p.v rows) _ _ (λ p _. bar_picture font.now titles p) first middle last
    (λ p x on. let r = in_rows first rows p few on in
    twice (int_lt p.v rows) (λ b. titles_value font.now 10 titles p b) (plain p) (bar_picture font.now titles p) x
    (ap (λ b. titles_value font.now 10 titles p b) (sym (plain_bar font.now p r.0))))
    (Draws-same _ (λ p. int_lt p.v rows) _ (λ p _. plain p) first middle
    (λ p x on. (λ i. if held first p few on i then look_bit (lettering font.now []) (is_step i ∷ []) (moved p i) else x)) ground)
    (Draws-same _ (λ p. int_lt p.v rows) _ (λ p x. titles_value font.now 10 titles p x) middle last
    (λ p x on. (λ i. if rect_holds (same_clip i) p && cut_holds ((same_cut i).now) p then titles_value ((same_font i).now) 10 (is_shown i) (minus p (same_origin i)) x else x)
    ∙ (λ i. if held middle p (rw ground.width few) on i then titles_value font.now 10 titles (moved p i) x else x)) over))
  where
    plain : PixelSet
    plain p = look_bit (lettering font.now []) (black_fill (box (pos 0) (pos 19) (pos 1024) (pos 20)) ∷ []) p

    moved : (p : Point) → minus p at ≡ p
    moved p = ap (minus p) is_at ∙ minus-origin p

    held : (m : Bits) (p : Point) → m.width ≤ 1024 → on_map m p ≡ true → (rect_holds clip p && cut_holds cut.now p) ≡ int_lt p.v rows
    held m p w on = (λ i. rect_holds (is_clip i) p && cut_holds (is_whole i) p) ∙ whole_cut (rect_holds (box (pos 0) (pos 0) (pos 1024) rows) p) ∙ (in_rows m rows p w on).1
