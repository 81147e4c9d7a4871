-- One step of a look after another on a canvas.
use Rattle.std.proofs.Common.{◌≡◌, ℕ, ◌+◌, ◌<◌, ◌-ℤ◌, Bool, true, false, cond, ◌&&◌, if◌then◌else◌, List, None, length, take, get_or, subst, refl, sym, ap, ◌∙◌}
use Rattle.std.proofs.lemmas.List.Sums.{fold_more}
use Rattle.tb_geom.specs.declared.point.Point.{Point}
use Rattle.tb_geom.specs.declared.rect.Rect.{Rect}
use Rattle.tb_geom.specs.Rects.{rect_holds}
use Rattle.bit_map.specs.Bits.{Bits, on_map}
use Rattle.bit_blit.specs.Draws.{Draws}
use Rattle.bit_map.specs.declared.mode.Mode.TheVariants.{Copy}
use Rattle.bit_map.specs.Modes.{mode_bit}
use Rattle.bit_map.specs.Patterns.{pattern_bit}
use Rattle.bit_blit.proofs.DrawsLemmas.{Draws-over, Draws-same, Draws-value, Draws-none}
use Rattle.draw_port.specs.declared.canvas.Canvas.{Canvas}
use Rattle.scan_region.specs.Cuts.{cut_holds}
use Rattle.draw_port.specs.Canvases.{canvas_holds, canvas_point, SameFrame}
use Rattle.draw_port.specs.Ops.{frame_holds, shade_value, op_holds, op_value}
use Rattle.draw_port.specs.declared.shapes.Shade.{Shade}
use Rattle.draw_port.specs.declared.shapes.Shape.TheVariants.{Frame}
use Rattle.draw_port.proofs.OverLemmas.{equal_rows, white_everywhere}
use Rattle.looks.specs.declared.step.Mark.{Mark}
use Rattle.looks.specs.declared.step.Step.{Step}
use Rattle.looks.specs.declared.lettered.Lettered.{Lettered}
use Rattle.looks.specs.Letters.{Lettering, lettering}
use Rattle.looks.specs.Lettered.{one_value, lettered_value}
use Rattle.looks.specs.Marks.{step_value, look_bit, step_holds, mark_holds, mark_value}

-- what is drawn over a part that was drawn before, with the value q of both together
pub twice : (t : Bool) (g : Bool → Bool) (x q d : Bool) → q ≡ g x → cond t (g (cond t x d)) (cond t x d) ≡ cond t q d
twice true g x q d e = sym e
twice false g x q d e = refl

-- on a canvas of the same frame a step is drawn at the same pixels, and alike
pub frame_step : (c d : Canvas) (text : List ℕ) (step : Step) (p : Point) (old : Bool) → SameFrame c d
    → cond (canvas_holds d p) (step_value (lettering d.font.now text) (canvas_point d p) old step) old ≡ cond (canvas_holds c p) (step_value (lettering c.font.now text) (canvas_point c p) old step) old
frame_step c d text step p old f = λ i.
    cond (rect_holds (f.clip i) p && cut_holds ((f.cut i).now) p)
    (step_value (lettering ((f.font i).now) text) (record { h = p.h -ℤ (f.origin i).h; v = p.v -ℤ (f.origin i).v }) old step) old

-- and so are steps with texts of their own
pub frame_steps : (c d : Canvas) (steps : List Lettered) (p : Point) (old : Bool) → SameFrame c d
    → cond (canvas_holds d p) (lettered_value d.font.now steps (canvas_point d p) old) old ≡ cond (canvas_holds c p) (lettered_value c.font.now steps (canvas_point c p) old) old
frame_steps c d steps p old f = λ i.
    cond (rect_holds (f.clip i) p && cut_holds ((f.cut i).now) p)
    (lettered_value ((f.font i).now) steps (record { h = p.h -ℤ (f.origin i).h; v = p.v -ℤ (f.origin i).v }) old) old

-- one step more
pub drawn-more : (text : List ℕ) (c d : Canvas) (steps : List Step) (k : ℕ) (other : Step) (first middle last : Bits)
    → k < length steps → SameFrame c d
    → Draws (canvas_holds c) (λ p _. look_bit (lettering c.font.now text) (take k steps) (canvas_point c p)) first middle
    → Draws (canvas_holds d) (λ p old. step_value (lettering d.font.now text) (canvas_point d p) old (get_or steps k other)) middle last
    → Draws (canvas_holds c) (λ p _. look_bit (lettering c.font.now text) (take (k + 1) steps) (canvas_point c p)) first last
drawn-more text c d steps k other first middle last h same drawn over =
    let t = lettering c.font.now text in
    let step = get_or steps k other in
    Draws-over (canvas_holds c) (canvas_holds c) (canvas_holds c) _ (λ p old. step_value t (canvas_point c p) old step) _ first middle last
    (λ p old on. twice (canvas_holds c p) (λ b. step_value t (canvas_point c p) b step) (look_bit t (take k steps) (canvas_point c p)) (look_bit t (take (k + 1) steps) (canvas_point c p)) old (fold_more (step_value t (canvas_point c p)) false steps k other h))
    drawn
    (Draws-same _ _ _ _ middle last (λ p old on. frame_step c d text step p old same) over)

-- a step that is on draws its mark's pixels on the part of the canvas that its cut leaves
pub drawn-step : (t : Lettering) (c : Canvas) (step : Step) (clip : Rect) (first last : Bits) → step.on ≡ true
    → ((p : Point) → rect_holds clip p ≡ (rect_holds c.clip p && rect_holds step.cut (canvas_point c p)))
    → Draws (λ p. (rect_holds clip p && cut_holds c.cut.now p) && mark_holds t step.mark (canvas_point c p)) (λ p d. mark_value step.mark (canvas_point c p) d) first last
    → Draws (canvas_holds c) (λ p d. step_value t (canvas_point c p) d step) first last
unfolding step_holds
drawn-step t c step clip first last e within drawn = Draws-same _ _ _ _ first last one drawn
  where
    table : (on : Bool) → on ≡ true → (k u r m x d : Bool) → cond (((k && r) && u) && m) x d ≡ cond (k && u) (if on && (r && m) then x else d) d
    table true o true true true m x d = refl
    table true o true true false m x d = refl
    table true o true false true m x d = refl
    table true o true false false m x d = refl
    table true o false u r m x d = refl
    table false o k u r m x d = absurd (cc)

    one : (p : Point) (d : Bool) → on_map first p ≡ true → cond ((rect_holds clip p && cut_holds c.cut.now p) && mark_holds t step.mark (canvas_point c p)) (mark_value step.mark (canvas_point c p) d) d ≡ cond (canvas_holds c p) (step_value t (canvas_point c p) d step) d
    one p d on =
        ap (λ b. cond ((b && cut_holds c.cut.now p) && mark_holds t step.mark (canvas_point c p)) (mark_value step.mark (canvas_point c p) d) d) (within p)
        ∙ table step.on e (rect_holds c.clip p) (cut_holds c.cut.now p) (rect_holds step.cut (canvas_point c p)) (mark_holds t step.mark (canvas_point c p)) (mark_value step.mark (canvas_point c p) d) d

-- a step that is off draws nothing
pub drawn-none : (t : Lettering) (c : Canvas) (step : Step) (same : Bits) → step.on ≡ false → Draws (canvas_holds c) (λ p d. step_value t (canvas_point c p) d step) same same
unfolding step_holds
drawn-none t c step same e = Draws-same (λ p. false) _ (λ p d. d) _ same same (λ p d on. table step.on e (canvas_holds c p) (rect_holds step.cut (canvas_point c p) && mark_holds t step.mark (canvas_point c p)) (mark_value step.mark (canvas_point c p) d) d) (Draws-none (λ p. false) (λ p d. d) same (λ x on. refl))
  where
    table : (on : Bool) → on ≡ false → (a b x d : Bool) → d ≡ cond a (if on && b then x else d) d
    table false o true b x d = refl
    table false o false b x d = refl
    table true o a b x d = absurd (cc)

-- a mark that is known
pub drawn-mark : (t : Lettering) (c : Canvas) (mark known : Mark) (first last : Bits) → mark ≡ known
    → Draws (λ p. canvas_holds c p && mark_holds t known (canvas_point c p)) (λ p d. mark_value known (canvas_point c p) d) first last
    → Draws (λ p. canvas_holds c p && mark_holds t mark (canvas_point c p)) (λ p d. mark_value mark (canvas_point c p) d) first last
drawn-mark t c mark known first last e drawn =
    subst (λ (m : Mark). Draws (λ p. canvas_holds c p && mark_holds t m (canvas_point c p)) (λ p d. mark_value m (canvas_point c p) d) first last) (sym e) drawn

-- the operation that is a frame draws its pixels
pub drawn-frame : (c : Canvas) (rect : Rect) (shade : Shade) (first last : Bits)
    → Draws (canvas_holds c) (λ p d. op_value c.font.now (record { clip = None; shape = Frame rect shade }) (canvas_point c p) d) first last
    → Draws (λ p. canvas_holds c p && frame_holds rect (canvas_point c p)) (λ p d. shade_value shade (canvas_point c p) d) first last
unfolding op_value op_holds
drawn-frame c rect shade first last drawn =
    Draws-same _ _ _ _ first last (λ p d on. table (canvas_holds c p) (frame_holds rect (canvas_point c p)) (shade_value shade (canvas_point c p) d) d) drawn
  where
    table : (k f x d : Bool) → cond k (cond (true && f) x d) d ≡ cond (k && f) x d
    table true f x d = refl
    table false f x d = refl

-- the white pattern is white
pub drawn-white : (c : Canvas) (pixels : Point → Bool) (first last : Bits)
    → Draws pixels (λ p d. mode_bit Copy (pattern_bit (equal_rows 0) (canvas_point c p)) d) first last
    → Draws pixels (λ p d. false) first last
drawn-white c pixels first last drawn = Draws-value pixels _ _ first last (λ p d. white_everywhere (canvas_point c p)) drawn

-- one step with its own text more
pub lettered-more : (c d : Canvas) (steps : List Lettered) (k : ℕ) (s : Lettered) (text : List ℕ) (first middle last : Bits)
    → k < length steps → s ≡ get_or steps k s → text ≡ s.text → SameFrame c d
    → Draws (canvas_holds c) (λ p old. lettered_value c.font.now (take k steps) (canvas_point c p) old) first middle
    → Draws (canvas_holds d) (λ p old. step_value (lettering d.font.now text) (canvas_point d p) old s.step) middle last
    → Draws (canvas_holds c) (λ p old. lettered_value c.font.now (take (k + 1) steps) (canvas_point c p) old) first last
lettered-more c d steps k s text first middle last h is e same drawn over =
    let f = one_value c.font.now in
    Draws-over (canvas_holds c) (canvas_holds c) (canvas_holds c) _ (λ p old. f (canvas_point c p) old s) _ first middle last
    (λ p old on. twice (canvas_holds c p) (λ b. f (canvas_point c p) b s) (lettered_value c.font.now (take k steps) (canvas_point c p) old) (lettered_value c.font.now (take (k + 1) steps) (canvas_point c p) old) old
    (fold_more (f (canvas_point c p)) old steps k s h ∙ ap (f (canvas_point c p) (lettered_value c.font.now (take k steps) (canvas_point c p) old)) (sym is)))
    drawn
    (Draws-same _ _ _ _ middle last (λ p old on. frame_step c d text s.step p old same ∙ ap (λ x. cond (canvas_holds c p) (step_value (lettering c.font.now x) (canvas_point c p) old s.step) old) e) over)
