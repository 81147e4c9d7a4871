-- A row that a canvas has no pixel of.
use Rattle.std.proofs.Common.{◌≡◌, ℕ, Bool, true, false, ◌&&◌, if◌then◌else◌, List, [], ◌∷◌, refl, sym, ap, ◌∙◌, arith}
use Rattle.std.proofs.lemmas.Int.{ints}
use Rattle.std.specs.List.{fold}
use Rattle.tb_geom.specs.declared.point.Point.{Point}
use Rattle.tb_geom.specs.Rects.{rect_holds}
use Rattle.bit_map.specs.Bits.{bit}
use Rattle.bit_blit.specs.Draws.{Draws}
use Rattle.draw_port.specs.declared.canvas.Canvas.{Canvas}
use Rattle.draw_port.specs.Canvases.{canvas_holds, canvas_point}
use Rattle.looks.specs.declared.lettered.Lettered.{Lettered}
use Rattle.looks.specs.declared.step.Step.{Step}
use Rattle.looks.specs.Letters.{Lettering}
use Rattle.looks.specs.Lettered.{lettered_value, one_value}
use Rattle.looks.specs.Marks.{mark_holds, mark_value, step_holds, step_value}
use Rattle.menu_record.specs.declared.item.MenuItem.{MenuItem}
use Rattle.std_mldef.specs.declared.rows.Row.{Row}
use Rattle.std_mldef.specs.Rows.{item_steps, row_box, inner_box, line_box}

-- a step draws nothing outside the rectangle that it is cut to
idle : (t : Lettering) (s : Step) (p : Point) (d : Bool) → rect_holds s.cut p ≡ false → step_value t p d s ≡ d
unfolding step_holds
idle t s p d e = ap (λ b. if s.on && (b && mark_holds t s.mark p) then mark_value s.mark p d else d) e ∙ table s.on (mark_value s.mark p d)
  where
    table : (x m : Bool) → (if x && false then m else d) ≡ d
    table true m = refl
    table false m = refl

-- the pixel lies outside the rectangles of these steps
abbrev AreAside : List Lettered → Point → Type 0
AreAside [] p = Unit {0}
AreAside (s ∷ steps) p = (rect_holds s.step.cut p ≡ false) × AreAside steps p

-- so they draw nothing there
all_idle : (font : List ℕ) (steps : List Lettered) (p : Point) (d : Bool) → AreAside steps p → lettered_value font steps p d ≡ d
all_idle font [] p d all = refl
all_idle font (s ∷ steps) p d all = ap (λ x. fold (one_value font p) x steps) (idle _ s.step p d all.0) ∙ all_idle font steps p d all.1

-- a row is drawn inside its rectangle
out_of_inner : (r : Row) (p : Point) → rect_holds (row_box r) p ≡ false → rect_holds (inner_box r) p ≡ false
out_of_inner r p e = grind (arith, ints, e)

out_of_line : (r : Row) (p : Point) → rect_holds (row_box r) p ≡ false → rect_holds (line_box r) p ≡ false
out_of_line r p e = grind (arith, ints, e)

row_idle : (font : List ℕ) (r : Row) (item : MenuItem) (bright lit : Bool) (p : Point) (d : Bool) → rect_holds (row_box r) p ≡ false
    → lettered_value font (item_steps r item bright lit) p d ≡ d
unfolding item_steps
row_idle font r item bright lit p d e = all_idle font (item_steps r item bright lit) p d (e, (e, (e, (out_of_line r p e, (out_of_inner r p e, (out_of_inner r p e, tt))))))

-- where the canvas has no pixel of it, the map has it drawn already
pub drawn_already : (c : Canvas) (r : Row) (item : MenuItem) (bright lit : Bool)
    → ((p : Point) → (rect_holds c.clip p && rect_holds (row_box r) (canvas_point c p)) ≡ false)
    → Draws (canvas_holds c) (λ p d. lettered_value c.font.now (item_steps r item bright lit) (canvas_point c p) d) c.map.now c.map.now
drawn_already c r item bright lit none = record { width = refl; height = refl; pixels = λ p on. sym (same p (rect_holds c.clip p) refl) }
  where
    not_first : (a b : Bool) → a ≡ false → (a && b) ≡ false
    not_first true b e = absurd (cc)
    not_first false b e = refl

    both : {x y : Bool} (b : Bool) → x ≡ y → (if b then x else y) ≡ y
    both true e = e
    both false e = refl

    same : (p : Point) (b : Bool) → rect_holds c.clip p ≡ b
        → (if canvas_holds c p then lettered_value c.font.now (item_steps r item bright lit) (canvas_point c p) (bit c.map.now p) else bit c.map.now p) ≡ bit c.map.now p
    same p false e = ap (λ b. if b then lettered_value c.font.now (item_steps r item bright lit) (canvas_point c p) (bit c.map.now p) else bit c.map.now p) (not_first (rect_holds c.clip p) _ e)
    same p true e =
        let out : rect_holds (row_box r) (canvas_point c p) ≡ false = sym (ap (λ b. b && rect_holds (row_box r) (canvas_point c p)) e) ∙ none p in
        both (canvas_holds c p) (row_idle c.font.now r item bright lit (canvas_point c p) (bit c.map.now p) out)
