-- Drawing a text tile by tile.
use Rattle.std.proofs.Common.{◌≡◌, ℕ, ◌≤◌, Option, ℤ, pos, negsuc, ◌-ℤ◌, ◌+ℤ◌, ◌≤ℤ◌, ◌<ℤ◌, Bool, true, false, ◌&&◌, ◌||◌, cond, List, refl, ap, sym, ◌∙◌, arith, w32}
use Rattle.std.specs.Int.{int_max, saturate_signed}
use Rattle.std.specs.Prelude.{int_lt}
use Rattle.std.proofs.lemmas.Bool.{true≢false}
use Rattle.std.proofs.lemmas.Int.{ints, clamps}
use Rattle.tb_geom.specs.declared.point.Point.{Point}
use Rattle.tb_geom.specs.declared.rect.Rect.{Rect}
use Rattle.tb_geom.specs.Points.{minus}
use Rattle.tb_geom.specs.Rects.{between, rect_holds}
use Rattle.tb_geom.specs.Pixels.{Pixels}
use Rattle.tb_geom.proofs.RectLemmas.{sides_of, holds_in}
use Rattle.bit_map.specs.Bits.{Bits, on_map}
use Rattle.bit_map.specs.declared.mode.Mode.{Mode}
use Rattle.bit_map.specs.Modes.{mode_bit}
use Rattle.bit_blit.specs.Draws.{Draws}
use Rattle.bit_blit.proofs.DrawsLemmas.{Draws-more, Draws-none, Draws-same, Draws-where}
use Rattle.strike_font.specs.Text.{glyphs_pixel, text_holds}
use Rattle.strike_font.specs.Record.{kern, ascent, height}
use Rattle.strike_font.specs.Tiles.{tile_bit, IsTile}
use Rattle.strike_font.proofs.TextLemmas.{text-to}
use Rattle.draw_port.specs.declared.canvas.Canvas.{Canvas}
use Rattle.draw_port.specs.Canvases.{canvas_holds, canvas_point, clipped_holds, SameFrame}
use Rattle.scan_region.specs.Cuts.{cut_holds}
use Rattle.draw_port.specs.Ops.{clip_holds}
use Rattle.draw_port.specs.Origins.{is_near_origin}
use Rattle.draw_port.specs.Places.{is_far}
use Rattle.draw_port.specs.Texts.{put_value}
use Rattle.draw_port.proofs.CanvasLemmas.{seen_near}
use Rattle.draw_port.proofs.PlacedLemmas.{not-false}

-- ---- one tile

-- the tile has the text's pixels in its rectangle
in_tile : (font text : List ℕ) (rect : Rect) (pen q : Point) (x y : ℤ) (words : List ℕ) → rect.bottom ≤ℤ (rect.top +ℤ pos 16) → rect.right ≤ℤ (rect.left +ℤ pos 512)
    → x ≡ rect.left -ℤ pen.h → y ≡ rect.top -ℤ pen.v → IsTile font text x y words → rect_holds rect q ≡ true
    → tile_bit words (q.h -ℤ rect.left) (q.v -ℤ rect.top) ≡ text_holds font text pen q
unfolding text_holds
in_tile font text rect pen q x y words rows columns is_x is_y is held =
    let s = sides_of rect q held in
    let s_left = s.left in
    let s_right = s.right in
    let s_top = s.top in
    let s_bottom = s.bottom in
    by_number (q.h -ℤ rect.left) (q.v -ℤ rect.top) refl refl (omega (arith, ints)) (omega (arith, ints)) (omega (arith, ints)) (omega (arith, ints))
  where
    by_number : (h v : ℤ) → q.h -ℤ rect.left ≡ h → q.v -ℤ rect.top ≡ v → pos 0 ≤ℤ h → h <ℤ pos 512 → pos 0 ≤ℤ v → v <ℤ pos 16 → tile_bit words h v ≡ glyphs_pixel font text 0 (q.h -ℤ pen.h) (q.v -ℤ pen.v)
    by_number (pos h) (pos v) is_h is_v h_low h_high v_low v_high =
        let across : (x +ℤ pos h) ≡ (q.h -ℤ pen.h) = omega (arith, ints, is_x, is_h) in
        let down : (y +ℤ pos v) ≡ (q.v -ℤ pen.v) = omega (arith, ints, is_y, is_v) in
        is h v (omega (arith, ints, h_high)) (omega (arith, ints, v_high)) ∙ (λ i. glyphs_pixel font text 0 (across i) (down i))
    by_number (negsuc h) v is_h is_v h_low h_high v_low v_high = absurd (omega (arith, ints, h_low))
    by_number (pos h) (negsuc v) is_h is_v h_low h_high v_low v_high = absurd (omega (arith, ints, v_low))

-- the rectangle up to a column further left
abbrev pub up_to : Rect → ℤ → Rect
up_to rect right = record { left = rect.left; top = rect.top; right = right; bottom = rect.bottom }

up_to_in : (rect : Rect) (right : ℤ) (q : Point) → right ≤ℤ rect.right → rect_holds (up_to rect right) q ≡ true → rect_holds rect q ≡ true
up_to_in rect right q within held =
    let s = sides_of (up_to rect right) q held in
    let s_right = s.right in
    holds_in rect q s.left (omega (arith, ints, s_right, within)) s.top s.bottom

-- past that column the text has no pixel
past_reach : (font text : List ℕ) (rect : Rect) (right reach : ℤ) (pen q : Point) → ((x : ℤ) → right ≤ℤ x → x <ℤ rect.right → (pen.h +ℤ reach) ≤ℤ x)
    → ((h v : ℤ) → reach ≤ℤ h → glyphs_pixel font text 0 h v ≡ false) → rect_holds rect q ≡ true → rect_holds (up_to rect right) q ≡ false → text_holds font text pen q ≡ false
unfolding text_holds
past_reach font text rect right reach pen q past none held out = by_test (int_lt q.h right) refl
  where
    by_test : (t : Bool) → int_lt q.h right ≡ t → glyphs_pixel font text 0 (q.h -ℤ pen.h) (q.v -ℤ pen.v) ≡ false
    by_test true e =
        let s = sides_of rect q held in
        let before : q.h <ℤ right = grind (arith, ints) in
        absurd (true≢false (sym (holds_in (up_to rect right) q s.left before s.top s.bottom) ∙ out))
    by_test false e =
        let s = sides_of rect q held in
        let after : right ≤ℤ q.h = grind (arith, ints) in
        let far = past q.h after s.right in
        none (q.h -ℤ pen.h) (q.v -ℤ pen.v) (omega (arith, ints, far))

-- so a tile that is drawn within the clip as far as the text reaches draws the text in the rectangle
pub tile_drawn : (c : Canvas) (clip : Option Pixels) (font text : List ℕ) (rect : Rect) (pen : Point) (mode : Mode) (x y right reach : ℤ) (words : List ℕ) (old new : Bits)
    → rect.bottom ≤ℤ (rect.top +ℤ pos 16) → rect.right ≤ℤ (rect.left +ℤ pos 512) → x ≡ rect.left -ℤ pen.h → y ≡ rect.top -ℤ pen.v → IsTile font text x y words
    → right ≤ℤ rect.right → ((x : ℤ) → right ≤ℤ x → x <ℤ rect.right → (pen.h +ℤ reach) ≤ℤ x) → ((h v : ℤ) → reach ≤ℤ h → glyphs_pixel font text 0 h v ≡ false)
    → Draws (λ p. canvas_holds c p && (clip_holds clip (canvas_point c p) && rect_holds (up_to rect right) (canvas_point c p))) (λ p d. cond (tile_bit words ((canvas_point c p).h -ℤ rect.left) ((canvas_point c p).v -ℤ rect.top)) (mode_bit mode true d) d) old new
    → Draws (λ p. canvas_holds c p && rect_holds rect (canvas_point c p)) (λ p d. put_value font clip text pen mode (canvas_point c p) d) old new
tile_drawn c clip font text rect pen mode x y right reach words old new rows columns is_x is_y is within past none drawn = Draws-same _ _ _ _ old new (λ p d on. one p d) drawn
  where
    table : (k l n r t u : Bool) (m d : Bool) → (n ≡ true → r ≡ true) → (r ≡ true → t ≡ u) → (r ≡ true → n ≡ false → u ≡ false) → cond (k && (l && n)) (cond t m d) d ≡ cond (k && r) (cond (l && u) m d) d
    table false l n r t u m d f g h = refl
    table true false n true t u m d f g h = refl
    table true false n false t u m d f g h = refl
    table true true true true t u m d f g h = ap (λ b. cond b m d) (g refl)
    table true true true false t u m d f g h = absurd (cc (f refl))
    table true true false false t u m d f g h = refl
    table true true false true t u m d f g h = ap (λ b. cond b m d) (sym (h refl refl))

    one : (p : Point) (d : Bool) → cond (canvas_holds c p && (clip_holds clip (canvas_point c p) && rect_holds (up_to rect right) (canvas_point c p))) (cond (tile_bit words ((canvas_point c p).h -ℤ rect.left) ((canvas_point c p).v -ℤ rect.top)) (mode_bit mode true d) d) d
        ≡ cond (canvas_holds c p && rect_holds rect (canvas_point c p)) (put_value font clip text pen mode (canvas_point c p) d) d
    one p d = table (canvas_holds c p) (clip_holds clip (canvas_point c p)) (rect_holds (up_to rect right) (canvas_point c p)) (rect_holds rect (canvas_point c p)) (tile_bit words ((canvas_point c p).h -ℤ rect.left) ((canvas_point c p).v -ℤ rect.top)) (text_holds font text pen (canvas_point c p)) (mode_bit mode true d) d
        (up_to_in rect right (canvas_point c p) within)
        (in_tile font text rect pen (canvas_point c p) x y words rows columns is_x is_y is)
        (past_reach font text rect right reach pen (canvas_point c p) past none)

-- ---- one rectangle more

-- the next rectangle has the pixels of two that share none
pub record IsNext (done piece next : Rect) : Type 0 where
  pub holds : (q : Point) → rect_holds next q ≡ (rect_holds piece q || rect_holds done q)
  pub apart : (q : Point) → rect_holds piece q ≡ true → rect_holds done q ≡ false

between_more : (low at high x : ℤ) → low ≤ℤ at → at <ℤ high → between low x high ≡ (between at x high || between low x at)
between_more low at high x l h = grind (arith, ints)

between_apart : (low at high x : ℤ) → between at x high ≡ true → between low x at ≡ false
between_apart low at high x e = grind (arith, ints)

or_left : (a b k : Bool) → ((a || b) && k) ≡ ((a && k) || (b && k))
or_left true true true = refl
or_left true true false = refl
or_left true false true = refl
or_left true false false = refl
or_left false b k = refl

or_right : (k a b : Bool) → (k && (a || b)) ≡ ((k && a) || (k && b))
or_right true a b = refl
or_right false a b = refl

apart_left : (a b k : Bool) → (a ≡ true → b ≡ false) → (a && k) ≡ true → (b && k) ≡ false
apart_left true b k f e = ap (λ t. t && k) (f refl)
apart_left false b k f e = absurd (cc)

apart_right : (k a b : Bool) → (a ≡ true → b ≡ false) → (k && a) ≡ true → (k && b) ≡ false
apart_right true a b f e = f e
apart_right false a b f e = refl

pub columns_next : (l t r b at high : ℤ) → l ≤ℤ at → at <ℤ high → IsNext (record { left = l; top = t; right = at; bottom = b }) (record { left = at; top = t; right = high; bottom = b }) (record { left = l; top = t; right = high; bottom = b })
columns_next l t r b at high low more = record {
  holds = λ q. ap (λ k. k && between t q.v b) (between_more l at high q.h low more) ∙ or_left (between at q.h high) (between l q.h at) (between t q.v b);
  apart = λ q. apart_left (between at q.h high) (between l q.h at) (between t q.v b) (between_apart l at high q.h);
}

pub rows_next : (l t r b at high : ℤ) → t ≤ℤ at → at <ℤ high → IsNext (record { left = l; top = t; right = r; bottom = at }) (record { left = l; top = at; right = r; bottom = high }) (record { left = l; top = t; right = r; bottom = high })
rows_next l t r b at high low more = record {
  holds = λ q. ap (λ k. between l q.h r && k) (between_more t at high q.v low more) ∙ or_right (between l q.h r) (between at q.v high) (between t q.v at);
  apart = λ q. apart_right (between l q.h r) (between at q.v high) (between t q.v at) (between_apart t at high q.v);
}

-- what is drawn in the one and then in the other is drawn in the next
pub next_drawn : (old mid : Canvas) (done piece next : Rect) (clip : Option Pixels) (text : List ℕ) (pen : Point) (mode : Mode) (first middle last : Bits) → SameFrame old mid → IsNext done piece next
    → Draws (λ p. canvas_holds old p && rect_holds done (canvas_point old p)) (λ p d. put_value old.font.now clip text pen mode (canvas_point old p) d) first middle
    → Draws (λ p. canvas_holds mid p && rect_holds piece (canvas_point mid p)) (λ p d. put_value mid.font.now clip text pen mode (canvas_point mid p) d) middle last
    → Draws (λ p. canvas_holds old p && rect_holds next (canvas_point old p)) (λ p d. put_value old.font.now clip text pen mode (canvas_point old p) d) first last
next_drawn old mid done piece next clip text pen mode first middle last frame is drawn more =
    Draws-more (λ p. canvas_holds old p && rect_holds done (canvas_point old p)) (λ p. canvas_holds old p && rect_holds piece (canvas_point old p)) (λ p. canvas_holds old p && rect_holds next (canvas_point old p)) _ first middle last
    (λ p. apart_right (canvas_holds old p) (rect_holds piece (canvas_point old p)) (rect_holds done (canvas_point old p)) (is.apart (canvas_point old p)))
    (λ p. ap (λ t. canvas_holds old p && t) (is.holds (canvas_point old p)) ∙ or_right (canvas_holds old p) (rect_holds piece (canvas_point old p)) (rect_holds done (canvas_point old p)))
    drawn
    (Draws-same _ _ _ _ middle last (λ p d on. framed p d) more)
  where
    framed : (p : Point) (d : Bool) → cond (canvas_holds mid p && rect_holds piece (canvas_point mid p)) (put_value mid.font.now clip text pen mode (canvas_point mid p) d) d ≡ cond (canvas_holds old p && rect_holds piece (canvas_point old p)) (put_value old.font.now clip text pen mode (canvas_point old p) d) d
    framed p d = λ i. cond ((rect_holds (frame.clip i) p && cut_holds ((frame.cut i).now) p) && rect_holds piece (minus p (frame.origin i))) (put_value ((frame.font i).now) clip text pen mode (minus p (frame.origin i)) d) d

-- ---- where the loops begin and end

between_none : (low x : ℤ) → between low x low ≡ false
between_none low x = grind (arith, ints)

between_all : (low at high x : ℤ) → low ≤ℤ at → high ≤ℤ at → at ≤ℤ int_max low high → between low x at ≡ between low x high
between_all low at high x l past within = grind (arith, ints, clamps)

and_none : (k l : Bool) → l ≡ false → (k && l) ≡ false
and_none true l e = e
and_none false l e = refl

pub no_columns : (c : Canvas) (l t b : ℤ) (value : Point → Bool → Bool) (a : Bits) → Draws (λ p. canvas_holds c p && rect_holds (record { left = l; top = t; right = l; bottom = b }) (canvas_point c p)) value a a
no_columns c l t b value a = Draws-none _ value a (λ p on. and_none (canvas_holds c p) _ (ap (λ k. k && between t (canvas_point c p).v b) (between_none l (canvas_point c p).h)))

pub no_rows : (c : Canvas) (l t r : ℤ) (value : Point → Bool → Bool) (a : Bits) → Draws (λ p. canvas_holds c p && rect_holds (record { left = l; top = t; right = r; bottom = t }) (canvas_point c p)) value a a
no_rows c l t r value a = Draws-none _ value a (λ p on. and_none (canvas_holds c p) _ (and_none (between l (canvas_point c p).h r) _ (between_none t (canvas_point c p).v)))

pub all_columns : (c : Canvas) (l t r b at : ℤ) (value : Point → Bool → Bool) (old new : Bits) → l ≤ℤ at → r ≤ℤ at → at ≤ℤ int_max l r
    → Draws (λ p. canvas_holds c p && rect_holds (record { left = l; top = t; right = at; bottom = b }) (canvas_point c p)) value old new
    → Draws (λ p. canvas_holds c p && rect_holds (record { left = l; top = t; right = r; bottom = b }) (canvas_point c p)) value old new
all_columns c l t r b at value old new low past within drawn =
    Draws-where _ _ value old new (λ p on. ap (λ k. canvas_holds c p && (k && between t (canvas_point c p).v b)) (between_all l at r (canvas_point c p).h low past within)) drawn

pub all_rows : (c : Canvas) (l t r b at : ℤ) (value : Point → Bool → Bool) (old new : Bits) → t ≤ℤ at → b ≤ℤ at → at ≤ℤ int_max t b
    → Draws (λ p. canvas_holds c p && rect_holds (record { left = l; top = t; right = r; bottom = at }) (canvas_point c p)) value old new
    → Draws (λ p. canvas_holds c p && rect_holds (record { left = l; top = t; right = r; bottom = b }) (canvas_point c p)) value old new
all_rows c l t r b at value old new low past within drawn =
    Draws-where _ _ value old new (λ p on. ap (λ k. canvas_holds c p && (between l (canvas_point c p).h r && k)) (between_all t at b (canvas_point c p).v low past within)) drawn

-- ---- the whole text

-- the rows of a font from the first column on in which a text may have a pixel
pub in_band : (font text : List ℕ) (pen p : Point) (left top bottom right_of : ℤ) (asc tall : ℕ) → right_of ≡ kern font → asc ≡ ascent font → tall ≡ height font
    → left ≡ saturate_signed w32 (pen.h +ℤ right_of) → top ≡ saturate_signed w32 (pen.v -ℤ pos asc) → bottom ≡ saturate_signed w32 (top +ℤ pos tall)
    → is_far p ≡ false → text_holds font text pen p ≡ true → rect_holds (record { left = left; top = top; right = pos 2147483647; bottom = bottom }) p ≡ true
in_band font text pen p left top bottom right_of asc tall is_kern is_asc is_tall is_left is_top is_bottom near held =
    let f = text-to font text pen p held in
    let s = sides_of (record { left = negsuc 2147483647; top = negsuc 2147483647; right = pos 2147483647; bottom = pos 2147483647 }) p (not-false _ near) in
    let h = f.h_is in
    let v = f.v_is in
    let row = f.row_in in
    let first : (pen.h +ℤ right_of) ≤ℤ p.h = omega (arith, ints, h, is_kern) in
    let above : (pen.v -ℤ pos asc) ≤ℤ p.v = omega (arith, ints, v, is_asc) in
    let below : p.v <ℤ (pen.v -ℤ pos asc +ℤ pos tall) = omega (arith, ints, v, is_asc, is_tall, row) in
    let from_top : (pen.v -ℤ pos asc) ≤ℤ top = not_less (pen.v -ℤ pos asc) p.v top is_top above s.bottom in
    let under : p.v <ℤ (top +ℤ pos tall) = omega (arith, ints, below, from_top) in
    holds_in (record { left = left; top = top; right = pos 2147483647; bottom = bottom }) p
    (stops_low (pen.h +ℤ right_of) p.h left is_left first s.left) s.right (stops_low (pen.v -ℤ pos asc) p.v top is_top above s.top)
    (stops_high (top +ℤ pos tall) p.v bottom is_bottom under s.top s.bottom)
  where
    stops_low : (a x side : ℤ) → side ≡ saturate_signed w32 a → a ≤ℤ x → negsuc 2147483647 ≤ℤ x → side ≤ℤ x
    stops_low a x side is below low = grind (arith, ints, clamps)

    not_less : (a x side : ℤ) → side ≡ saturate_signed w32 a → a ≤ℤ x → x <ℤ pos 2147483647 → a ≤ℤ side
    not_less a x side is below high = grind (arith, ints, clamps)

    stops_high : (a x side : ℤ) → side ≡ saturate_signed w32 a → x <ℤ a → negsuc 2147483647 ≤ℤ x → x <ℤ pos 2147483647 → x <ℤ side
    stops_high a x side is above low high = grind (arith, ints, clamps)

-- a text that is drawn in a rectangle around it is drawn on the canvas
pub text_drawn : (c : Canvas) (clip : Option Pixels) (text : List ℕ) (pen : Point) (mode : Mode) (around reach box : Rect) (old new : Bits) → old ≡ c.map.now → old.width ≤ 32767 → old.height ≤ 32767 → is_near_origin c.origin ≡ true
    → ((p : Point) → is_far p ≡ false → text_holds c.font.now text pen p ≡ true → rect_holds around p ≡ true)
    → ((p : Point) → on_map c.map.now p ≡ true → canvas_holds c p ≡ true → rect_holds reach (canvas_point c p) ≡ true)
    → ((p : Point) → rect_holds box p ≡ (rect_holds reach p && rect_holds around p))
    → Draws (λ p. canvas_holds c p && rect_holds box (canvas_point c p)) (λ p d. put_value c.font.now clip text pen mode (canvas_point c p) d) old new
    → Draws (clipped_holds c clip text pen) (λ p d. mode_bit mode true d) old new
text_drawn c clip text pen mode around reach box old new is_old w h near encloses reaches both drawn = Draws-same _ _ _ _ old new one drawn
  where
    table : (k l t inside : Bool) (m d : Bool) → (k ≡ true → t ≡ true → inside ≡ true) → cond (k && inside) (cond (l && t) m d) d ≡ cond (k && (l && t)) m d
    table false l t inside m d f = refl
    table true false t true m d f = refl
    table true false t false m d f = refl
    table true true true true m d f = refl
    table true true true false m d f = absurd (cc (f refl refl))
    table true true false true m d f = refl
    table true true false false m d f = refl

    one : (p : Point) (d : Bool) → on_map old p ≡ true → cond (canvas_holds c p && rect_holds box (canvas_point c p)) (put_value c.font.now clip text pen mode (canvas_point c p) d) d ≡ cond (clipped_holds c clip text pen p) (mode_bit mode true d) d
    one p d on = table (canvas_holds c p) (clip_holds clip (canvas_point c p)) (text_holds c.font.now text pen (canvas_point c p)) (rect_holds box (canvas_point c p)) (mode_bit mode true d) d
        (λ held has. both (canvas_point c p) ∙ (λ i. reaches p (ap (λ m. on_map m p) (sym is_old) ∙ on) held i && encloses (canvas_point c p) (seen_near old p c.origin w h near on) has i))

pub column-turn : (h place : ℤ) (k : ℕ) → (h -ℤ place +ℤ pos k) ≡ (h +ℤ pos k -ℤ place)
column-turn h place k = omega (arith, ints)
