-- One operation after another on a canvas.
use Rattle.std.proofs.Common.{◌≡◌, ℕ, ◌+◌, ◌<◌, ◌≤◌, ℤ, pos, negsuc, ◌-ℤ◌, ◌≤ℤ◌, nat_abs, Bool, true, false, not, ◌&&◌, cond, List, length, take, get_or, refl, sym, ap, if◌then◌else◌, ◌∙◌, arith, w32}
use Rattle.std.specs.Int.{saturate_signed}
use Rattle.std.proofs.lemmas.Int.{ints, clamps}
use Rattle.std.proofs.lemmas.List.Sums.{fold_more}
use Rattle.std.proofs.lemmas.Bool.{and_parts}
use Rattle.tb_geom.specs.declared.rect.Rect.{Rect}
use Rattle.tb_geom.specs.declared.point.Point.{Point}
use Rattle.tb_geom.specs.Points.{PixelSet, minus}
use Rattle.tb_geom.specs.Rects.{between, rect_holds}
use Rattle.bit_map.specs.Bits.{Bits, on_map}
use Rattle.bit_map.proofs.BitsLemmas.{on_map-sides, on_map-same}
use Rattle.bit_blit.specs.Draws.{Draws, DrawsOnce}
use Rattle.bit_blit.proofs.WrittenLemmas.{written_none, written_over, written_in, written_once}
use Rattle.bit_blit.proofs.DrawsLemmas.{Draws-over, Draws-same, Draws-where}
use Rattle.draw_port.specs.Origins.{is_near_origin}
use Rattle.draw_port.specs.Places.{stopped, is_far, HasNear, Encloses}
use Rattle.scan_region.specs.Cuts.{cut_holds}
use Rattle.draw_port.specs.Ops.{clip_holds, text_mode, shape_holds, shape_value, op_holds, op_value, picture_value}
use Rattle.draw_port.specs.Canvases.{canvas_holds, canvas_point, clipped_holds, painted_by, painted_all, pictured, SameFrame}
use Rattle.draw_port.specs.declared.canvas.Canvas.{Canvas}
use Rattle.bit_map.specs.declared.mode.Mode.{Mode}
use Rattle.bit_map.specs.Images.{Image, image_holds, image_bit}
use Rattle.bit_map.specs.Modes.{mode_bit}
use Rattle.draw_port.specs.declared.shapes.Op.{Op}
use Rattle.draw_port.specs.declared.shapes.TextRun.{TextRun}
use Rattle.draw_port.specs.declared.shapes.Shape.{Shape}
use Rattle.draw_port.specs.declared.shapes.Shape.TheVariants.{Text}

near_number : (limit : ℕ) (x o : ℤ) → limit ≤ 32767 → pos 0 ≤ℤ x → nat_abs x < limit → between (negsuc 999999999) o (pos 1000000000) ≡ true → saturate_signed w32 (x -ℤ o) ≡ x -ℤ o
near_number limit (pos n) o l a b e = grind (arith, ints, clamps)
near_number limit (negsuc n) o l a b e = absurd (omega (arith, ints))

seen_number : (limit : ℕ) (x o : ℤ) → limit ≤ 32767 → pos 0 ≤ℤ x → nat_abs x < limit → between (negsuc 999999999) o (pos 1000000000) ≡ true → between (negsuc 2147483647) (x -ℤ o) (pos 2147483647) ≡ true
seen_number limit (pos n) o l a b e = grind (arith, ints)
seen_number limit (negsuc n) o l a b e = absurd (omega (arith, ints))

-- seen from a near origin, a pixel of a map is not far
pub seen_near : (m : Bits) (p o : Point) → m.width ≤ 32767 → m.height ≤ 32767 → is_near_origin o ≡ true → on_map m p ≡ true → is_far (minus p o) ≡ false
seen_near m p o w h near on =
    let at = on_map-sides m p on in
    let n = and_parts (between (negsuc 999999999) o.h (pos 1000000000)) (between (negsuc 999999999) o.v (pos 1000000000)) near in
    λ i. not (seen_number m.width p.h o.h w at.right at.across n.0 i && seen_number m.height p.v o.v h at.below at.down n.1 i)

-- and its numbers are those of 32 bits
pub stopped-near : (m : Bits) (p o : Point) → m.width ≤ 32767 → m.height ≤ 32767 → is_near_origin o ≡ true → on_map m p ≡ true → stopped p o ≡ minus p o
stopped-near m p o w h near on =
    let at = on_map-sides m p on in
    let n = and_parts (between (negsuc 999999999) o.h (pos 1000000000)) (between (negsuc 999999999) o.v (pos 1000000000)) near in
    λ i. record { h = near_number m.width p.h o.h w at.right at.across n.0 i; v = near_number m.height p.v o.v h at.below at.down n.1 i }

-- ---- a rule of the canvas

-- what a rule of the canvas draws in a rectangle of the map where the cut leaves it
pub seen_drawn : (c : Canvas) (area : Rect) (value : Point → Bool → Bool) (old new : Bits) → old.width ≤ 32767 → old.height ≤ 32767 → is_near_origin c.origin ≡ true
    → Draws (λ p. rect_holds area p && cut_holds c.cut.now p) (λ p d. value (stopped p c.origin) d) old new
    → Draws (λ p. rect_holds area p && cut_holds c.cut.now p) (λ p d. value (canvas_point c p) d) old new
seen_drawn c area value old new w h near drawn =
    Draws-same _ _ _ _ old new (λ p d on. ap (λ q. cond (rect_holds area p && cut_holds c.cut.now p) (value q d) d) (stopped-near old p c.origin w h near on)) drawn

-- in the part of the clip that a rectangle has, this is a drawing of the rectangle's pixels of the canvas
pub placed_drawn : (c : Canvas) (rect area : Rect) (value : Point → Bool → Bool) (old new : Bits)
    → ((p : Point) → rect_holds area p ≡ (rect_holds c.clip p && rect_holds rect (canvas_point c p)))
    → Draws (λ p. rect_holds area p && cut_holds c.cut.now p) value old new
    → Draws (λ p. canvas_holds c p && rect_holds rect (canvas_point c p)) value old new
placed_drawn c rect area value old new shared drawn = Draws-where _ _ value old new one drawn
  where
    turned : (k r u : Bool) → ((k && r) && u) ≡ ((k && u) && r)
    turned true true true = refl
    turned true true false = refl
    turned true false true = refl
    turned true false false = refl
    turned false r u = refl

    one : (p : Point) → on_map old p ≡ true → (rect_holds area p && cut_holds c.cut.now p) ≡ (canvas_holds c p && rect_holds rect (canvas_point c p))
    one p on = ap (λ b. b && cut_holds c.cut.now p) (shared p) ∙ turned (rect_holds c.clip p) (rect_holds rect (canvas_point c p)) (cut_holds c.cut.now p)

in_table : (k t : Bool) (x d : Bool) → cond (k && t) x d ≡ cond k (cond t x d) d
in_table true t x d = refl
in_table false t x d = refl

-- within a clip, bits are copied where the image has the pixel
pub rows_drawn : (c : Canvas) (u : PixelSet) (box : Rect) (made image : Image) (place : Point) (mode : Mode) (old new : Bits) → old.width ≤ 32767 → old.height ≤ 32767 → is_near_origin c.origin ≡ true → made ≡ image
    → Encloses box (λ p. image_holds image (minus p place))
    → Draws (λ p. canvas_holds c p && (u (canvas_point c p) && rect_holds box (canvas_point c p))) (λ p d. if image_holds made (minus (canvas_point c p) place) then mode_bit mode (image_bit made (minus (canvas_point c p) place)) d else d) old new
    → Draws (λ p. canvas_holds c p && (u (canvas_point c p) && image_holds image (minus (canvas_point c p) place))) (λ p d. mode_bit mode (image_bit image (minus (canvas_point c p) place)) d) old new
rows_drawn c u box made image place mode old new w h near is_made around drawn = Draws-same _ _ _ _ old new one drawn
  where
    table : (k u inside t : Bool) (x d : Bool) → (t ≡ true → inside ≡ true) → cond (k && (u && inside)) (cond t x d) d ≡ cond (k && (u && t)) x d
    table false u inside t x d f = refl
    table true false inside t x d f = refl
    table true true true t x d f = refl
    table true true false true x d f = absurd (cc (f refl))
    table true true false false x d f = refl

    one : (p : Point) (d : Bool) → on_map old p ≡ true → cond (canvas_holds c p && (u (canvas_point c p) && rect_holds box (canvas_point c p))) (cond (image_holds made (minus (canvas_point c p) place)) (mode_bit mode (image_bit made (minus (canvas_point c p) place)) d) d) d ≡ cond (canvas_holds c p && (u (canvas_point c p) && image_holds image (minus (canvas_point c p) place))) (mode_bit mode (image_bit image (minus (canvas_point c p) place)) d) d
    one p d on =
        (λ i. cond (canvas_holds c p && (u (canvas_point c p) && rect_holds box (canvas_point c p))) (cond (image_holds (is_made i) (minus (canvas_point c p) place)) (mode_bit mode (image_bit (is_made i) (minus (canvas_point c p) place)) d) d) d)
        ∙ table (canvas_holds c p) (u (canvas_point c p)) (rect_holds box (canvas_point c p)) (image_holds image (minus (canvas_point c p) place)) (mode_bit mode (image_bit image (minus (canvas_point c p) place)) d) d (around (canvas_point c p) (seen_near old p c.origin w h near on))

-- ---- operations

-- what a rectangle has that is a set's but for far pixels is the set's on a canvas
pub near_drawn : (c : Canvas) (u : PixelSet) (rect : Rect) (s : PixelSet) (value : Point → Bool → Bool) (old new : Bits) → old.width ≤ 32767 → old.height ≤ 32767 → is_near_origin c.origin ≡ true
    → HasNear rect s
    → Draws (λ p. canvas_holds c p && (u (canvas_point c p) && rect_holds rect (canvas_point c p))) value old new
    → Draws (λ p. canvas_holds c p && (u (canvas_point c p) && s (canvas_point c p))) value old new
near_drawn c u rect s value old new w h near same drawn =
    Draws-where _ _ value old new (λ p on. ap (λ t. canvas_holds c p && (u (canvas_point c p) && t)) (same (canvas_point c p) (seen_near old p c.origin w h near on))) drawn

-- an operation is painted where its shape is drawn within its clip
pub shape_painted : (c : Canvas) (op : Op) (s : Shape) (old new : Bits) → op.shape ≡ s
    → Draws (λ p. canvas_holds c p && (clip_holds op.clip (canvas_point c p) && shape_holds c.font.now s (canvas_point c p))) (λ p d. shape_value s (canvas_point c p) d) old new
    → Draws (canvas_holds c) (painted_by c op) old new
unfolding op_value op_holds
shape_painted c op s old new is_shape drawn = Draws-same _ _ _ _ old new one drawn
  where
    one : (p : Point) (d : Bool) → on_map old p ≡ true → cond (canvas_holds c p && (clip_holds op.clip (canvas_point c p) && shape_holds c.font.now s (canvas_point c p))) (shape_value s (canvas_point c p) d) d ≡ cond (canvas_holds c p) (cond (clip_holds op.clip (canvas_point c p) && shape_holds c.font.now op.shape (canvas_point c p)) (shape_value op.shape (canvas_point c p) d) d) d
    one p d on = in_table (canvas_holds c p) (clip_holds op.clip (canvas_point c p) && shape_holds c.font.now s (canvas_point c p)) (shape_value s (canvas_point c p) d) d
        ∙ (λ i. cond (canvas_holds c p) (cond (clip_holds op.clip (canvas_point c p) && shape_holds c.font.now (sym is_shape i) (canvas_point c p)) (shape_value (sym is_shape i) (canvas_point c p) d) d) d)

-- an operation that is a text is painted where the text is drawn
pub text_painted : (c : Canvas) (op : Op) (t : TextRun) (text : List ℕ) (mode : Mode) (old new : Bits) → op.shape ≡ Text t → text ≡ t.text → mode ≡ text_mode t.mode
    → Draws (clipped_holds c op.clip text t.pen) (λ p d. mode_bit mode true d) old new
    → Draws (canvas_holds c) (painted_by c op) old new
text_painted c op t text mode old new is_shape is_text is_mode drawn =
    shape_painted c op (Text t) old new is_shape
    (Draws-same _ _ _ _ old new (λ p d on. λ i. cond (clipped_holds c op.clip (is_text i) t.pen p) (mode_bit (is_mode i) true d) d) drawn)

-- ---- one operation after another

pub SameFrame-none : (a : Canvas) → SameFrame a a
SameFrame-none a = record { clip = refl; origin = refl; cut = refl; font = refl; written = written_none (canvas_holds a) a.map.now; width = refl; height = refl }

pub SameFrame-then : (a b c : Canvas) → SameFrame a b → SameFrame b c → SameFrame a c
SameFrame-then a b c f g = record {
  clip = g.clip ∙ f.clip;
  origin = g.origin ∙ f.origin;
  cut = g.cut ∙ f.cut;
  font = g.font ∙ f.font;
  written =
      written_over (canvas_holds a) (canvas_holds b) (canvas_holds a) a.map.now b.map.now c.map.now (λ p. on_map-same a.map.now b.map.now p f.width f.height)
      (λ p on out. (out, (λ i. rect_holds (f.clip i) p && cut_holds ((f.cut i).now) p) ∙ out)) f.written g.written;
  width = g.width ∙ f.width;
  height = g.height ∙ f.height;
}

-- a drawing of pixels of the canvas, each once
pub SameFrame-drawn : (a b : Canvas) (holds : PixelSet) (f : Point → Bool → Bool) → b.clip ≡ a.clip → b.origin ≡ a.origin → b.cut ≡ a.cut → b.font ≡ a.font
    → ((p : Point) → canvas_holds a p ≡ false → holds p ≡ false)
    → DrawsOnce holds f a.map.now b.map.now → SameFrame a b
SameFrame-drawn a b holds f clip origin cut font within drawn = record {
  clip = clip;
  origin = origin;
  cut = cut;
  font = font;
  written = written_in holds (canvas_holds a) a.map.now b.map.now (λ p on out. within p out) (written_once holds f a.map.now b.map.now drawn);
  width = drawn.width;
  height = drawn.height;
}

and_out : (r k c : Bool) → (r ≡ true → k ≡ true) → (k && c) ≡ false → (r && c) ≡ false
and_out true k c inside e = ap (λ t. t && c) (sym (inside refl)) ∙ e
and_out false k c inside e = refl

-- a part of the clip, where the cut leaves it, is of the canvas
pub in_clip : (c : Canvas) (area : Rect) → ((p : Point) → rect_holds area p ≡ true → rect_holds c.clip p ≡ true) → (p : Point) → canvas_holds c p ≡ false → (rect_holds area p && cut_holds c.cut.now p) ≡ false
in_clip c area inside p out = and_out (rect_holds area p) (rect_holds c.clip p) (cut_holds c.cut.now p) (inside p) out

first_of : (t a b : Bool) → t ≡ (a && b) → t ≡ true → a ≡ true
first_of t true b e on = refl
first_of t false b e on = sym e ∙ on

-- a drawing on a canvas of the same map, whose clip is what a rectangle has of this one's
pub SameFrame-inner : (a b c d : Canvas) (rect : Rect) → ((p : Point) → rect_holds b.clip p ≡ (rect_holds a.clip p && rect_holds rect (minus p a.origin)))
    → b.map.now ≡ a.map.now → b.cut ≡ a.cut → SameFrame b c
    → d.map.now ≡ c.map.now → d.clip ≡ a.clip → d.origin ≡ a.origin → d.cut ≡ a.cut → d.font ≡ a.font → SameFrame a d
SameFrame-inner a b c d rect shared same_map same_cut drawn after clip origin cut font = record {
  clip = clip;
  origin = origin;
  cut = cut;
  font = font;
  written =
      written_in (canvas_holds b) (canvas_holds a) a.map.now d.map.now
      (λ p on out. ap (λ k. rect_holds b.clip p && cut_holds k.now p) same_cut ∙ in_clip a b.clip (λ q e. first_of (rect_holds b.clip q) (rect_holds a.clip q) (rect_holds rect (minus q a.origin)) (shared q) e) p out)
      (rw (← same_map, after) drawn.written);
  width = ap (λ (m : Bits). m.width) after ∙ drawn.width ∙ ap (λ (m : Bits). m.width) same_map;
  height = ap (λ (m : Bits). m.height) after ∙ drawn.height ∙ ap (λ (m : Bits). m.height) same_map;
}

-- on a canvas of the same frame an operation is painted at the same pixels, and alike
frame_value : (old mid : Canvas) (op : Op) (p : Point) (d : Bool) → SameFrame old mid → cond (canvas_holds mid p) (painted_by mid op p d) d ≡ cond (canvas_holds old p) (painted_by old op p d) d
frame_value old mid op p d f = λ i. cond (rect_holds (f.clip i) p && cut_holds ((f.cut i).now) p) (op_value ((f.font i).now) op (minus p (f.origin i)) d) d

twice : (t : Bool) (g : Bool → Bool) (p q d : Bool) → q ≡ g p → cond t (g (cond t p d)) (cond t p d) ≡ cond t q d
twice true g p q d e = sym e
twice false g p q d e = refl

all_more : (c : Canvas) (ops : List Op) (k : ℕ) (op : Op) (p : Point) (d : Bool) → k < length ops → op ≡ get_or ops k op → painted_all c (take (k + 1) ops) p d ≡ painted_by c op p (painted_all c (take k ops) p d)
all_more c ops k op p d l e =
    fold_more (λ b o. op_value c.font.now o (canvas_point c p) b) d ops k op l
    ∙ ap (λ o. op_value c.font.now o (canvas_point c p) (painted_all c (take k ops) p d)) (sym e)

-- one more operation
pub painted-more : (old mid : Canvas) (ops : List Op) (k : ℕ) (op : Op) (a b c : Bits) → k < length ops → op ≡ get_or ops k op → SameFrame old mid
    → Draws (canvas_holds old) (painted_all old (take k ops)) a b → Draws (canvas_holds mid) (painted_by mid op) b c → Draws (canvas_holds old) (painted_all old (take (k + 1) ops)) a c
painted-more old mid ops k op a b c l e frame first second =
    Draws-over (canvas_holds old) (canvas_holds old) (canvas_holds old) (painted_all old (take k ops)) (painted_by old op) (painted_all old (take (k + 1) ops)) a b c
    (λ p d on. twice (canvas_holds old p) (painted_by old op p) (painted_all old (take k ops) p d) (painted_all old (take (k + 1) ops) p d) d (all_more old ops k op p d l e))
    first
    (Draws-same (canvas_holds mid) (canvas_holds old) (painted_by mid op) (painted_by old op) b c (λ p d on. frame_value old mid op p d frame) second)

frame_all : (old mid : Canvas) (ops : List Op) (p : Point) (d : Bool) → SameFrame old mid → cond (canvas_holds mid p) (painted_all mid ops p d) d ≡ cond (canvas_holds old p) (painted_all old ops p d) d
frame_all old mid ops p d f = λ i. cond (rect_holds (f.clip i) p && cut_holds ((f.cut i).now) p) (picture_value ((f.font i).now) ops (minus p (f.origin i)) d) d

white_first : (t : Bool) (g : Bool → Bool) (d : Bool) → cond t (g (cond t false d)) (cond t false d) ≡ cond t (g false) d
white_first true g d = refl
white_first false g d = refl

-- operations over white are the picture
pub pictured-over : (old mid : Canvas) (ops : List Op) (a b c : Bits) → SameFrame old mid
    → Draws (canvas_holds old) (λ _ _. false) a b → Draws (canvas_holds mid) (painted_all mid ops) b c → Draws (canvas_holds old) (pictured old ops) a c
pictured-over old mid ops a b c frame first second =
    Draws-over (canvas_holds old) (canvas_holds old) (canvas_holds old) (λ _ _. false) (painted_all old ops) (pictured old ops) a b c
    (λ p d on. white_first (canvas_holds old p) (painted_all old ops p) d)
    first
    (Draws-same (canvas_holds mid) (canvas_holds old) (painted_all mid ops) (painted_all old ops) b c (λ p d on. frame_all old mid ops p d frame) second)
