-- What is drawn of a text record, one piece after another.
use Rattle.std.proofs.Common.{◌≡◌, ℕ, suc, ◌+◌, ◌<◌, ◌≤◌, Bool, true, false, not, cond, ◌&&◌, ◌||◌, List, refl, sym, ap, subst, ◌∙◌, add-one, arith}
use Rattle.std.proofs.lemmas.Bool.{lt-ltb, le-ltb}
use Rattle.tb_geom.specs.declared.point.Point.{Point}
use Rattle.tb_geom.specs.declared.rect.Rect.{Rect}
use Rattle.tb_geom.specs.Rects.{rect_holds}
use Rattle.bit_map.specs.Bits.{Bits}
use Rattle.bit_map.specs.declared.mode.Mode.TheVariants.{Copy, Or}
use Rattle.bit_map.specs.Modes.{mode_bit}
use Rattle.bit_map.specs.Patterns.{pattern_bit}
use Rattle.bit_blit.specs.Draws.{Draws}
use Rattle.bit_blit.proofs.DrawsLemmas.{Draws-where, Draws-same, Draws-value}
use Rattle.strike_font.specs.Text.{text_holds}
use Rattle.draw_port.proofs.OverLemmas.{equal_rows, white_everywhere}
use Rattle.draw_port.specs.Canvases.{canvas_holds, canvas_point, SameFrame}
use Rattle.draw_port.specs.declared.canvas.Canvas.{Canvas}
use Rattle.text_record.specs.Texts.{Record}
use Rattle.text_record.specs.Placings.{box_of}
use Rattle.text_record.specs.Places.{drawn_bytes, line_in}
use Rattle.scan_region.specs.Cuts.{cut_holds}
use Rattle.text_paint.specs.declared.selected.Selection.{Selection}
use Rattle.text_paint.specs.Selected.{is_toggled, reselected}
use Rattle.text_paint.specs.Shown.{line_count, some_line, line_pen, line_holds, with_lines, part_holds, caret_rect, is_inverted, with_selection, inset, frame_holds, text_shown}
use Rattle.text_paint.proofs.OverLemmas.{drawn_not, part_over, all_over, placed_over}
use Rattle.text_paint.proofs.PartLemmas.{none_before, inside_frame}

-- ---- the lines

-- the bit of a pixel, once the first lines are drawn
abbrev pub inked : List ℕ → Record → ℕ → Point → Bool → Bool
inked font r k p d = some_line k (λ j. line_holds font r j p) || d

inked_more : (t s x : Bool) → cond t (mode_bit Or true (s || x)) (s || x) ≡ ((t || s) || x)
inked_more true s x = refl
inked_more false s x = refl

-- one line more
pub line_more : (c d : Canvas) (r : Record) (k : ℕ) (text : List ℕ) (pen : Point) (first middle last : Bits)
    → SameFrame c d → text ≡ drawn_bytes r.text.bytes (line_in r k) → pen ≡ line_pen r k
    → Draws (canvas_holds c) (λ p x. inked c.font.now r k (canvas_point c p) x) first middle
    → Draws (λ p. canvas_holds d p && text_holds d.font.now text pen (canvas_point d p)) (λ p x. mode_bit Or true x) middle last
    → Draws (canvas_holds c) (λ p x. inked c.font.now r (k + 1) (canvas_point c p) x) first last
line_more c d r k text pen first middle last same text_is pen_is drawn over =
    let here = subst (λ (t : List ℕ). Draws (λ p. canvas_holds d p && text_holds d.font.now t (line_pen r k) (canvas_point d p)) (λ p x. mode_bit Or true x) middle last) text_is
    (subst (λ (q : Point). Draws (λ p. canvas_holds d p && text_holds d.font.now text q (canvas_point d p)) (λ p x. mode_bit Or true x) middle last) pen_is over) in
    let made = part_over c d (λ font. text_holds font (drawn_bytes r.text.bytes (line_in r k)) (line_pen r k)) (λ font p x. mode_bit Or true x) (λ font p x. inked font r k p x) first middle last same drawn here in
    let more : Draws (canvas_holds c) (λ p x. inked c.font.now r (suc k) (canvas_point c p) x) first last =
    Draws-value (canvas_holds c) _ _ first last (λ p x. inked_more (line_holds c.font.now r k (canvas_point c p)) (some_line k (λ j. line_holds c.font.now r j (canvas_point c p))) x) made in
    subst (λ (n : ℕ). Draws (canvas_holds c) (λ p x. inked c.font.now r n (canvas_point c p) x) first last) (sym (add-one k)) more

pub lines_ended : (c : Canvas) (r : Record) (k : ℕ) (first last : Bits) → k ≡ line_count r
    → Draws (canvas_holds c) (λ p x. inked c.font.now r k (canvas_point c p) x) first last → Draws (canvas_holds c) (λ p x. with_lines c.font.now r (canvas_point c p) x) first last
lines_ended c r k first last e drawn = subst (λ (m : ℕ). Draws (canvas_holds c) (λ p x. inked c.font.now r m (canvas_point c p) x) first last) e drawn

-- ---- the highlight

-- the bit of a pixel, once the highlight on the first lines is inverted
abbrev pub turned : Record → ℕ → Point → Bool → Bool
turned r k p d = cond (some_line k (λ j. part_holds r j p)) (not d) d

turned_more : (t s x : Bool) → (t ≡ true → s ≡ false) → cond t (not (cond s (not x) x)) (cond s (not x) x) ≡ cond (t || s) (not x) x
turned_more true s x apart = rw (apart refl) refl
turned_more false s x apart = refl

-- the highlight on one line more
pub part_more : (c d : Canvas) (r : Record) (k : ℕ) (first middle last : Bits)
    → SameFrame c d
    → Draws (canvas_holds c) (λ p x. turned r k (canvas_point c p) x) first middle
    → Draws (λ p. canvas_holds d p && part_holds r k (canvas_point d p)) (λ p x. not x) middle last
    → Draws (canvas_holds c) (λ p x. turned r (k + 1) (canvas_point c p) x) first last
part_more c d r k first middle last same drawn over =
    let made = part_over c d (λ font. part_holds r k) (λ font p x. not x) (λ font p x. turned r k p x) first middle last same drawn over in
    let more : Draws (canvas_holds c) (λ p x. turned r (suc k) (canvas_point c p) x) first last =
    Draws-value (canvas_holds c) _ _ first last (λ p x. turned_more (part_holds r k (canvas_point c p)) (some_line k (λ j. part_holds r j (canvas_point c p))) x (none_before r k k (canvas_point c p) (omega arith))) made in
    subst (λ (n : ℕ). Draws (canvas_holds c) (λ p x. turned r n (canvas_point c p) x) first last) (sym (add-one k)) more

pub parts_ended : (c : Canvas) (r : Record) (k : ℕ) (first last : Bits) → k ≡ line_count r
    → Draws (canvas_holds c) (λ p x. turned r k (canvas_point c p) x) first last → Draws (canvas_holds c) (λ p x. turned r (line_count r) (canvas_point c p) x) first last
parts_ended c r k first last e drawn = subst (λ (m : ℕ). Draws (canvas_holds c) (λ p x. turned r m (canvas_point c p) x) first last) e drawn

-- the part of one line
pub part_drawn : (c : Canvas) (rect whole : Rect) (has : Bool) (first last : Bits) → true ≡ has → rect ≡ whole
    → Draws (λ p. canvas_holds c p && rect_holds rect (canvas_point c p)) (λ p x. not x) first last
    → Draws (λ p. canvas_holds c p && (has && rect_holds whole (canvas_point c p))) (λ p x. not x) first last
part_drawn c rect whole has first last e f drawn =
    Draws-where _ _ _ first last (λ p on i. canvas_holds c p && (e i && rect_holds (f i) (canvas_point c p))) drawn

pub part_none : (c : Canvas) (whole : Rect) (has : Bool) (first : Bits) → false ≡ has
    → Draws (λ p. canvas_holds c p && (has && rect_holds whole (canvas_point c p))) (λ p x. not x) first first
part_none c whole has first e = record { pixels = λ p on. kept (canvas_holds c p) has (rect_holds whole (canvas_point c p)) _ e; width = refl; height = refl }
  where
    kept : (h t s d : Bool) → false ≡ t → d ≡ cond (h && (t && s)) (not d) d
    kept true t s d e = rw (← e) refl
    kept false t s d e = refl

-- ---- the selection

value_none : (r : Record) (p : Point) (x : Bool) → r.active ≡ false → x ≡ with_selection r p x
value_none r p x e = rw e refl

pub shows_none : (c : Canvas) (r : Record) (first : Bits) → r.active ≡ false → Draws (canvas_holds c) (λ p x. with_selection r (canvas_point c p) x) first first
shows_none c r first e = Draws-value (canvas_holds c) (λ p x. x) _ first first (λ p x. value_none r (canvas_point c p) x e) (drawn_not (canvas_holds c) first)

value_range : (r : Record) (p : Point) (x : Bool) → r.active ≡ true → r.start < r.end → turned r (line_count r) p x ≡ with_selection r p x
value_range r p x e l = rw (e, lt-ltb r.start r.end l) refl

pub shows_range : (c : Canvas) (r : Record) (first last : Bits) → r.active ≡ true → r.start < r.end
    → Draws (canvas_holds c) (λ p x. turned r (line_count r) (canvas_point c p) x) first last → Draws (canvas_holds c) (λ p x. with_selection r (canvas_point c p) x) first last
shows_range c r first last e l drawn = Draws-value (canvas_holds c) _ _ first last (λ p x. value_range r (canvas_point c p) x e l) drawn

value_caret : (r : Record) (p : Point) (x : Bool) → r.active ≡ true → r.end ≤ r.start → r.caret ≡ true → cond (rect_holds (caret_rect r) p) (not x) x ≡ with_selection r p x
value_caret r p x e l on = rw (e, le-ltb r.start r.end l, on) refl

pub shows_caret : (c : Canvas) (r : Record) (rect : Rect) (first last : Bits) → r.active ≡ true → r.end ≤ r.start → r.caret ≡ true → rect ≡ caret_rect r
    → Draws (λ p. canvas_holds c p && rect_holds rect (canvas_point c p)) (λ p x. not x) first last → Draws (canvas_holds c) (λ p x. with_selection r (canvas_point c p) x) first last
shows_caret c r rect first last e l on is drawn =
    Draws-same _ _ _ _ first last
    (λ p x there. inside (canvas_holds c p) (rect_holds rect (canvas_point c p)) x
    ∙ ap (λ v. cond (canvas_holds c p) v x) (ap (λ (s : Rect). cond (rect_holds s (canvas_point c p)) (not x) x) is ∙ value_caret r (canvas_point c p) x e l on)) drawn
  where
    inside : (h t x : Bool) → cond (h && t) (not x) x ≡ cond h (cond t (not x) x) x
    inside true t x = refl
    inside false t x = refl

value_hidden : (r : Record) (p : Point) (x : Bool) → r.active ≡ true → r.end ≤ r.start → r.caret ≡ false → x ≡ with_selection r p x
value_hidden r p x e l off = rw (e, le-ltb r.start r.end l, off) refl

pub shows_no_caret : (c : Canvas) (r : Record) (first : Bits) → r.active ≡ true → r.end ≤ r.start → r.caret ≡ false → Draws (canvas_holds c) (λ p x. with_selection r (canvas_point c p) x) first first
shows_no_caret c r first e l off = Draws-value (canvas_holds c) (λ p x. x) _ first first (λ p x. value_hidden r (canvas_point c p) x e l off) (drawn_not (canvas_holds c) first)

-- the lines, and the selection over them
pub text_drawn : (c d : Canvas) (r : Record) (first middle last : Bits) → SameFrame c d
    → Draws (canvas_holds c) (λ p x. with_lines c.font.now r (canvas_point c p) x) first middle
    → Draws (canvas_holds d) (λ p x. with_selection r (canvas_point d p) x) middle last
    → Draws (canvas_holds c) (λ p x. with_selection r (canvas_point c p) (with_lines c.font.now r (canvas_point c p) x)) first last
text_drawn c d r first middle last same lines selection =
    all_over c d (λ font p x. with_lines font r p x) (λ font p x. with_selection r p x) first middle last same lines selection

-- ---- the frame

no_frame : (r : Record) (p : Point) (x : Bool) → r.framed ≡ false → mode_bit Copy (pattern_bit (equal_rows 0) p) x ≡ frame_holds r p
no_frame r p x e = white_everywhere p ∙ by_flag r.framed (rect_holds (box_of r.framed r.view) p && not (rect_holds (inset (box_of r.framed r.view)) p)) e
  where
    by_flag : (framed t : Bool) → framed ≡ false → false ≡ (framed && t)
    by_flag true t e = absurd (cc e)
    by_flag false t e = refl

-- without a frame all is white
pub white_drawn : (c : Canvas) (r : Record) (first last : Bits) → r.framed ≡ false
    → Draws (canvas_holds c) (λ p x. mode_bit Copy (pattern_bit (equal_rows 0) (canvas_point c p)) x) first last
    → Draws (canvas_holds c) (λ p x. frame_holds r (canvas_point c p)) first last
white_drawn c r first last e drawn = Draws-value (canvas_holds c) _ _ first last (λ p x. no_frame r (canvas_point c p) x e) drawn

a_frame : (framed box inner white : Bool) → framed ≡ true → white ≡ false → cond box (not inner) white ≡ (framed && (box && not inner))
a_frame framed true inner white e f = rw e refl
a_frame framed false inner white e f = rw (e, f) refl

-- a box over white
pub frame_drawn : (c d : Canvas) (r : Record) (first middle last : Bits) → SameFrame c d → r.framed ≡ true
    → Draws (canvas_holds c) (λ p x. mode_bit Copy (pattern_bit (equal_rows 0) (canvas_point c p)) x) first middle
    → Draws (λ p. canvas_holds d p && rect_holds (box_of r.framed r.view) (canvas_point d p)) (λ p x. not (rect_holds (inset (box_of r.framed r.view)) (canvas_point d p))) middle last
    → Draws (canvas_holds c) (λ p x. frame_holds r (canvas_point c p)) first last
frame_drawn c d r first middle last same e white box =
    let sides = box_of r.framed r.view in
    let made = part_over c d (λ font. rect_holds sides) (λ font p x. not (rect_holds (inset sides) p)) (λ font p x. mode_bit Copy (pattern_bit (equal_rows 0) p) x) first middle last same white box in
    Draws-value (canvas_holds c) _ _ first last
    (λ p x. a_frame r.framed (rect_holds sides (canvas_point c p)) (rect_holds (inset sides) (canvas_point c p)) (mode_bit Copy (pattern_bit (equal_rows 0) (canvas_point c p)) x) e (white_everywhere (canvas_point c p))) made

-- ---- all of it

in_view : (view frame : Bool) (f : Bool → Bool) → (view ≡ true → frame ≡ false) → cond view (f frame) frame ≡ cond view (f false) frame
in_view true frame f apart = ap f (apart refl)
in_view false frame f apart = refl

-- the text in the view, over the frame
pub all_drawn : (c d : Canvas) (r : Record) (first middle last : Bits) → SameFrame c d
    → Draws (canvas_holds c) (λ p x. frame_holds r (canvas_point c p)) first middle
    → Draws (λ p. canvas_holds d p && rect_holds r.view (canvas_point d p)) (λ p x. with_selection r (canvas_point d p) (with_lines d.font.now r (canvas_point d p) x)) middle last
    → Draws (canvas_holds c) (λ p x. text_shown c.font.now r (canvas_point c p)) first last
all_drawn c d r first middle last same frame text =
    let made = part_over c d (λ font. rect_holds r.view) (λ font p x. with_selection r p (with_lines font r p x)) (λ font p x. frame_holds r p) first middle last same frame text in
    Draws-value (canvas_holds c) _ _ first last
    (λ p x. in_view (rect_holds r.view (canvas_point c p)) (frame_holds r (canvas_point c p)) (λ b. with_selection r (canvas_point c p) (with_lines c.font.now r (canvas_point c p) b)) (inside_frame r (canvas_point c p))) made

-- ---- another selection

pixel_toggled : (held view was is x : Bool) → cond (held && view) (cond is (not (cond was (not x) x)) (cond was (not x) x)) x ≡ cond held (cond (view && cond was (not is) is) (not x) x) x
pixel_toggled false view was is x = refl
pixel_toggled true false was is x = refl
pixel_toggled true true false is x = refl
pixel_toggled true true true false x = refl
pixel_toggled true true true true true = refl
pixel_toggled true true true true false = refl

-- what both selections invert in the view, inverted
pub toggled_over : (c : Canvas) (clip : Rect) (was : Selection) (r : Record) (first last : Bits)
    → ((p : Point) → rect_holds clip p ≡ (rect_holds c.clip p && rect_holds r.view (canvas_point c p)))
    → Draws (λ p. rect_holds clip p && cut_holds c.cut.now p) (λ p x. with_selection r (canvas_point c p) (with_selection (reselected was r) (canvas_point c p) x)) first last
    → Draws (canvas_holds c) (λ p x. cond (is_toggled was r (canvas_point c p)) (not x) x) first last
toggled_over c clip was r first last shared drawn =
    Draws-same _ _ _ _ first last (λ p x on. pixel_toggled (canvas_holds c p) (rect_holds r.view (canvas_point c p)) (is_inverted (reselected was r) (canvas_point c p)) (is_inverted r (canvas_point c p)) x)
    (placed_over c clip r.view (λ p x. with_selection r (canvas_point c p) (with_selection (reselected was r) (canvas_point c p) x)) first last shared drawn)
