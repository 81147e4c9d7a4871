-- The cells of a gauge: their frames turned, and nothing outside their rectangle.
use Rattle.std.proofs.Common.{◌≡◌, ℕ, Bool, true, false, not, ◌&&◌, ◌||◌, if◌then◌else◌, List, [], ◌∷◌, refl, sym, ap, ◌∙◌}
use Rattle.tb_geom.specs.declared.point.Point.{Point}
use Rattle.tb_geom.specs.declared.rect.Rect.{Rect}
use Rattle.tb_geom.specs.Rects.{IsBoxOf, rect_holds}
use Rattle.bit_map.specs.Bits.{Bits}
use Rattle.bit_blit.specs.Draws.{Draws}
use Rattle.bit_blit.proofs.DrawsLemmas.{Draws-value}
use Rattle.draw_port.specs.declared.canvas.Canvas.{Canvas}
use Rattle.draw_port.specs.Canvases.{canvas_holds, canvas_point}
use Rattle.draw_port.specs.Ops.{frame_holds, shade_value}
use Rattle.looks.specs.Letters.{Lettering, lettering}
use Rattle.looks.specs.Marks.{look_bit, step_holds, step_value, turned, when}
use Rattle.looks.proofs.DamageLemmas.{none_cut_off, outside_both, step_outside}
use Rattle.std_mldef.proofs.CellLemmas.{inverts}
use Rattle.def_iface.specs.declared.size.Size.{Size}
use Rattle.def_iface.specs.ListMeaning.{IsListDamage, cell_bit}
use Rattle.def_iface.specs.Sizes.{rect_of}
use Rattle.own_kind.specs.declared.gauge_list.GaugeList.{GaugeList}
use Rattle.own_kind.specs.Gauges.{around, bar_step, frame_step, gauge_highlight, gauge_look, gauge_meaning, gauge_picture}

-- ---- frames

-- a pixel of a rectangle is turned as by inverting that
turns : (t : Lettering) (r : Rect) (p : Point) (d : Bool) → rect_holds r p ≡ true → shade_value turned p d ≡ not d
unfolding step_holds
turns t r p d inside =
    sym (ap (λ b. if true && (b && b) then shade_value turned p d else d) inside) ∙ inverts t true r p d ∙ ap (λ b. if true && b then not d else d) inside

-- the step of a frame turns the highlight of a cell, where a test holds
frame_turns : (t : Lettering) (test : Bool) (s : Size) (bytes : List ℕ) (p : Point) (d : Bool)
    → step_value t p d (when test (frame_step s bytes)) ≡ (if test && gauge_highlight s bytes p then not d else d)
unfolding step_holds
frame_turns t test s bytes p d = table test (rect_holds (rect_of s) p) (frame_holds (around s bytes) p) (shade_value turned p d) (turns t (rect_of s) p d)
  where
    table : (a b c x : Bool) → (b ≡ true → x ≡ not d) → (if a && (b && c) then x else d) ≡ (if a && (b && c) then not d else d)
    table false b c x e = refl
    table true false c x e = refl
    table true true false x e = refl
    table true true true x e = e refl

-- a drawn look of a cell shows the cell
pub gauge_drawn : (g : GaugeList) (c : Canvas) (selected : Bool) (bytes : List ℕ) (first last : Bits)
    → Draws (canvas_holds c) (λ p _. look_bit (lettering c.font.now []) (gauge_look g.size bytes selected) (canvas_point c p)) first last
    → Draws (canvas_holds c) (λ p _. cell_bit (gauge_meaning g) selected c.font.now bytes (canvas_point c p)) first last
unfolding gauge_picture
gauge_drawn g c selected bytes first last drawn =
    Draws-value (canvas_holds c) _ _ first last
    (λ p d. frame_turns (lettering c.font.now []) selected g.size bytes (canvas_point c p) (look_bit (lettering c.font.now []) (bar_step g.size bytes ∷ []) (canvas_point c p))) drawn

-- and its frame, drawn alone, turns the highlight
pub gauge_turned : (g : GaugeList) (c : Canvas) (bytes : List ℕ) (first last : Bits)
    → Draws (canvas_holds c) (λ p d. step_value (lettering c.font.now []) (canvas_point c p) d (frame_step g.size bytes)) first last
    → Draws (canvas_holds c) (λ p d. if gauge_highlight g.size bytes (canvas_point c p) then not d else d) first last
gauge_turned g c bytes first last drawn =
    Draws-value (canvas_holds c) _ _ first last (λ p d. frame_turns (lettering c.font.now []) true g.size bytes (canvas_point c p) d) drawn

-- ---- another size

white_outside : (s : Size) (font bytes : List ℕ) (p : Point) → rect_holds (rect_of s) p ≡ false → gauge_picture s font bytes p ≡ false
unfolding gauge_picture
white_outside s font bytes p out = step_outside (lettering font []) p false (bar_step s bytes) (none_cut_off (lettering font []) (bar_step s bytes) p out)

-- cells of another size look as before outside the box of both
pub gauge_resized : (g : GaugeList) (size : Size) (r : Rect) → IsBoxOf r (λ q. rect_holds (rect_of g.size) q || rect_holds (rect_of size) q)
    → IsListDamage r (gauge_meaning g) (gauge_meaning (record g { size = size }))
gauge_resized g size r box = record {
  picture = λ font bytes p inside out. let o = outside p out in white_outside size font bytes p o.1 ∙ sym (white_outside g.size font bytes p o.0);
  highlight = λ font bytes p inside out. let o = outside p out in ap (λ b. b && frame_holds (around size bytes) p) o.1 ∙ sym (ap (λ b. b && frame_holds (around g.size bytes) p) o.0);
}
  where
    outside : (p : Point) → rect_holds r p ≡ false → (rect_holds (rect_of g.size) p ≡ false) × (rect_holds (rect_of size) p ≡ false)
    outside p out = outside_both r (rect_of g.size) (rect_of size) box p out
