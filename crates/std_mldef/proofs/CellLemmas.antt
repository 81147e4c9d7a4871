-- The cells of a list, drawn, inverted and cut to their rectangle.
use Rattle.std.proofs.Common.{◌≡◌, ℕ, ◌<◌, Bool, true, false, not, ◌&&◌, ◌||◌, if◌then◌else◌, List, [], ◌∷◌, ℤ, pos, negsuc, replicate, zero, suc, refl, sym, ap, ◌∙◌, arith}
use Rattle.std.specs.Prelude.{slice_index}
use Rattle.tb_geom.specs.declared.point.Point.{Point}
use Rattle.tb_geom.specs.declared.rect.Rect.{Rect}
use Rattle.tb_geom.specs.Rects.{IsBoxOf, rect_holds}
use Rattle.std.proofs.lemmas.Bool.{false≢true}
use Rattle.bit_map.specs.Bits.{Bits}
use Rattle.bit_map.specs.Patterns.{pattern_bit, bit_of, eighth_of}
use Rattle.bit_map.specs.Modes.{xor_bit}
use Rattle.bit_blit.specs.Draws.{Draws}
use Rattle.bit_blit.proofs.DrawsLemmas.{Draws-value}
use Rattle.draw_port.specs.declared.canvas.Canvas.{Canvas}
use Rattle.draw_port.specs.Canvases.{canvas_holds, canvas_point}
use Rattle.draw_port.specs.Ops.{shade_value}
use Rattle.looks.specs.Letters.{Lettering, lettering}
use Rattle.looks.specs.Marks.{mark_holds, step_holds, step_value, look_bit, turned, inverted, when}
use Rattle.def_iface.specs.declared.size.Size.{Size}
use Rattle.def_iface.specs.ListMeaning.{IsListDamage}
use Rattle.std_mldef.specs.declared.std_list.StdList.{StdList}
use Rattle.std_mldef.specs.Lists.{std_list_meaning}
use Rattle.std_mldef.specs.Cells.{is_hilited, cell_box, cell_text, cell_steps, cell_picture, drawn_cell}

-- a remainder by 8 is below 8
eighth-below : (x : ℤ) → eighth_of x < 8
eighth-below (pos n) = omega arith
eighth-below (negsuc n) = omega arith

-- what holds of each number below 8
each_below_eight : (P : ℕ → Type 0) → P 0 → P 1 → P 2 → P 3 → P 4 → P 5 → P 6 → P 7 → (k : ℕ) → k < 8 → P k
each_below_eight P a b c d e f g h zero l = a
each_below_eight P a b c d e f g h (suc zero) l = b
each_below_eight P a b c d e f g h (suc (suc zero)) l = c
each_below_eight P a b c d e f g h (suc (suc (suc zero))) l = d
each_below_eight P a b c d e f g h (suc (suc (suc (suc zero)))) l = e
each_below_eight P a b c d e f g h (suc (suc (suc (suc (suc zero))))) l = f
each_below_eight P a b c d e f g h (suc (suc (suc (suc (suc (suc zero)))))) l = g
each_below_eight P a b c d e f g h (suc (suc (suc (suc (suc (suc (suc zero))))))) l = h
each_below_eight P a b c d e f g h (suc (suc (suc (suc (suc (suc (suc (suc k)))))))) l = absurd (omega arith)

black-bit : (k : ℕ) → k < 8 → bit_of 255 k ≡ true
black-bit = each_below_eight (λ k. bit_of 255 k ≡ true) refl refl refl refl refl refl refl refl

row-byte : (k : ℕ) → k < 8 → slice_index (replicate 8 255) k ≡ 255
row-byte = each_below_eight (λ k. slice_index (replicate 8 255) k ≡ 255) refl refl refl refl refl refl refl refl

black_everywhere : (p : Point) → pattern_bit turned.pattern p ≡ true
black_everywhere p = ap (λ byte. bit_of byte (eighth_of p.h)) (row-byte (eighth_of p.v) (eighth-below p.v)) ∙ black-bit (eighth_of p.h) (eighth-below p.h)

turns : (p : Point) (d : Bool) → shade_value turned p d ≡ not d
turns p d = ap (λ b. xor_bit b d) (black_everywhere p)

-- inverting a rectangle where a test holds
pub inverts : (t : Lettering) (test : Bool) (r : Rect) (p : Point) (d : Bool) → step_value t p d (when test (inverted r)) ≡ (if test && rect_holds r p then not d else d)
unfolding step_holds
inverts t test r p d = table test (rect_holds r p) ∙ ap (λ x. if test && rect_holds r p then x else d) (turns p d)
  where
    table : (a b : Bool) → (if a && (b && b) then shade_value turned p d else d) ≡ (if a && b then shade_value turned p d else d)
    table true true = refl
    table true false = refl
    table false b = refl

-- a drawn look of a cell shows the cell
pub cell_drawn : (c : Canvas) (size : Size) (test : Bool) (bytes : List ℕ) (first last : Bits)
    → Draws (canvas_holds c) (λ p _. look_bit (lettering c.font.now bytes) (cell_steps size test) (canvas_point c p)) first last
    → Draws (canvas_holds c) (λ p _. drawn_cell size test c.font.now bytes (canvas_point c p)) first last
unfolding cell_picture
cell_drawn c size test bytes first last drawn =
    Draws-value (canvas_holds c) _ _ first last
    (λ p d. inverts (lettering c.font.now bytes) test (cell_box size) (canvas_point c p) (look_bit (lettering c.font.now bytes) (cell_text size ∷ []) (canvas_point c p))) drawn

pub cell_inverted : (c : Canvas) (size : Size) (test : Bool) (text : List ℕ) (first last : Bits)
    → Draws (canvas_holds c) (λ p d. step_value (lettering c.font.now text) (canvas_point c p) d (when test (inverted (cell_box size)))) first last
    → Draws (canvas_holds c) (λ p d. if test && rect_holds (cell_box size) (canvas_point c p) then not d else d) first last
cell_inverted c size test text first last drawn =
    Draws-value (canvas_holds c) _ _ first last (λ p d. inverts (lettering c.font.now text) test (cell_box size) (canvas_point c p) d) drawn

-- a cell is white outside its rectangle
pub white_outside : (size : Size) (font bytes : List ℕ) (p : Point) → rect_holds (cell_box size) p ≡ false → cell_picture size font bytes p ≡ false
unfolding cell_picture step_holds
white_outside size font bytes p out = ap (λ b. if true && (b && mark_holds (lettering font bytes) (cell_text size).mark p) then true else false) out

-- outside the box of two rectangles lies neither
neither : (a b r : Rect) (p : Point) → IsBoxOf r (λ q. rect_holds a q || rect_holds b q) → rect_holds r p ≡ false → (rect_holds a p ≡ false) × (rect_holds b p ≡ false)
neither a b r p box out = by_tests (rect_holds a p) (rect_holds b p) (λ e. false≢true (sym out ∙ box.holds p e))
  where
    by_tests : (x y : Bool) → ((x || y) ≡ true → ⊥) → (x ≡ false) × (y ≡ false)
    by_tests true y none = absurd (none refl)
    by_tests false true none = absurd (none refl)
    by_tests false false none = (refl, refl)

-- cells of another size look as before outside the box of both
pub resized : (l : StdList) (size : Size) (a b r : Rect) → a ≡ cell_box l.size → b ≡ cell_box size → IsBoxOf r (λ q. rect_holds a q || rect_holds b q)
    → IsListDamage r (std_list_meaning l) (std_list_meaning (record l { size = size }))
resized l size a b r old new box = record {
  picture = λ font bytes p inside out. let o = outside p out in white_outside size font bytes p o.1 ∙ sym (white_outside l.size font bytes p o.0);
  highlight = λ font bytes p inside out. let o = outside p out in ap (λ x. is_hilited l.nil_hilited bytes && x) (o.1 ∙ sym o.0);
}
  where
    outside : (p : Point) → rect_holds r p ≡ false → (rect_holds (cell_box l.size) p ≡ false) × (rect_holds (cell_box size) p ≡ false)
    outside p out = let n = neither a b r p box out in ((λ i. rect_holds (sym old i) p) ∙ n.0, (λ i. rect_holds (sym new i) p) ∙ n.1)
