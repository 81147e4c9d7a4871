-- Steps that the tests tell to be the same are.
use Rattle.std.proofs.Common.{◌≡◌, ℕ, zero, suc, true, ◌&&◌, refl, sym, ap, ◌∙◌}
use Rattle.std.proofs.lemmas.Bool.{eqb-true, and_parts}
use Rattle.std.proofs.lemmas.Bool.Decides.{Decides-int_eq}
use Rattle.std.proofs.lemmas.Slice.Eq.{bytes_eq-Decides}
use Rattle.std.specs.Prelude.{nat_eq}
use Rattle.std.specs.Ordering.{int_eq}
use Rattle.std.specs.Str.{bytes_eq}
use Rattle.std.specs.Bool.{beq}
use Rattle.std.specs.Cmp.{booleans_Decides}
use Rattle.tb_geom.specs.declared.rect.Rect.{Rect}
use Rattle.tb_geom.proofs.RectLemmas.{same_rect}
use Rattle.bit_map.specs.declared.mode.Mode.{Mode}
use Rattle.bit_map.specs.declared.mode.Mode.TheVariants.{Copy, Or, Xor, Bic, NotCopy, NotOr, NotXor, NotBic}
use Rattle.bit_map.specs.Modes.{source_number}
use Rattle.looks.specs.declared.pen.Pen.{Pen}
use Rattle.looks.specs.declared.pen.Pen.TheVariants.{At, Middle}
use Rattle.looks.specs.declared.pen.Baseline.{Baseline}
use Rattle.looks.specs.declared.pen.Baseline.TheVariants.{At as AtRow, Middle as MiddleRow}
use Rattle.looks.specs.declared.pen.Plate.{Plate}
use Rattle.draw_port.specs.declared.shapes.Shade.{Shade}
use Rattle.shape_strips.specs.declared.corner.Corner.{Corner}
use Rattle.looks.specs.declared.rounded.Rounded.{Rounded}
use Rattle.looks.specs.declared.step.Mark.{Mark}
use Rattle.looks.specs.declared.step.Mark.TheVariants.{Fill, Frame, Behind, Text, Cross, Round}
use Rattle.looks.specs.declared.step.Step.{Step}
use Rattle.looks.specs.Same.{same_rects, same_shades, same_marks, same_plates, same_pens, same_baselines, same_corners, same_rounded}

pub rects_same : (a b : Rect) → same_rects a b ≡ true → a ≡ b
rects_same a b e =
    let l = and_parts (int_eq a.left b.left) (int_eq a.top b.top && (int_eq a.right b.right && int_eq a.bottom b.bottom)) e in
    let t = and_parts (int_eq a.top b.top) (int_eq a.right b.right && int_eq a.bottom b.bottom) l.1 in
    let r = and_parts (int_eq a.right b.right) (int_eq a.bottom b.bottom) t.1 in
    same_rect a b ((Decides-int_eq a.left b.left).0 l.0) ((Decides-int_eq a.top b.top).0 t.0) ((Decides-int_eq a.right b.right).0 r.0) ((Decides-int_eq a.bottom b.bottom).0 r.1)

-- the mode of a number
mode_of : ℕ → Mode
mode_of zero = Copy
mode_of (suc zero) = Or
mode_of (suc (suc zero)) = Xor
mode_of (suc (suc (suc zero))) = Bic
mode_of (suc (suc (suc (suc zero)))) = NotCopy
mode_of (suc (suc (suc (suc (suc zero))))) = NotOr
mode_of (suc (suc (suc (suc (suc (suc zero)))))) = NotXor
mode_of (suc (suc (suc (suc (suc (suc (suc n))))))) = NotBic

back : (m : Mode) → mode_of (source_number m) ≡ m
unfolding mode_of
back Copy = refl
back Or = refl
back Xor = refl
back Bic = refl
back NotCopy = refl
back NotOr = refl
back NotXor = refl
back NotBic = refl

modes_same : (a b : Mode) → source_number a ≡ source_number b → a ≡ b
modes_same a b e = sym (back a) ∙ ap mode_of e ∙ back b

pub shades_same : (a b : Shade) → same_shades a b ≡ true → a ≡ b
shades_same a b e =
    let both = and_parts (bytes_eq a.pattern.rows b.pattern.rows) (nat_eq (source_number a.mode) (source_number b.mode)) e in
    λ i. record { pattern = record { rows = (bytes_eq-Decides a.pattern.rows b.pattern.rows).0 both.0 i }; mode = modes_same a.mode b.mode (eqb-true (source_number a.mode) (source_number b.mode) both.1) i }

pub plates_same : (a b : Plate) → same_plates a b ≡ true → a ≡ b
plates_same a b e =
    let w = and_parts (nat_eq a.width b.width) (nat_eq a.margin b.margin && (int_eq a.top b.top && int_eq a.bottom b.bottom)) e in
    let m = and_parts (nat_eq a.margin b.margin) (int_eq a.top b.top && int_eq a.bottom b.bottom) w.1 in
    let t = and_parts (int_eq a.top b.top) (int_eq a.bottom b.bottom) m.1 in
    λ i. record { width = eqb-true a.width b.width w.0 i; margin = eqb-true a.margin b.margin m.0 i; top = (Decides-int_eq a.top b.top).0 t.0 i; bottom = (Decides-int_eq a.bottom b.bottom).0 t.1 i }

pub pens_same : (a b : Pen) → same_pens a b ≡ true → a ≡ b
pens_same (At x) (At y) e = ap At ((Decides-int_eq x y).0 e)
pens_same (Middle w) (Middle v) e = ap Middle (eqb-true w v e)
pens_same (At x) (Middle v) e = absurd (cc)
pens_same (Middle w) (At y) e = absurd (cc)

pub baselines_same : (a b : Baseline) → same_baselines a b ≡ true → a ≡ b
baselines_same (AtRow x) (AtRow y) e = ap AtRow ((Decides-int_eq x y).0 e)
baselines_same (MiddleRow h) (MiddleRow k) e = ap MiddleRow (eqb-true h k e)
baselines_same (AtRow x) (MiddleRow k) e = absurd (cc)
baselines_same (MiddleRow h) (AtRow y) e = absurd (cc)

pub corners_same : (a b : Corner) → same_corners a b ≡ true → a ≡ b
corners_same a b e =
    let both = and_parts (nat_eq a.width b.width) (nat_eq a.height b.height) e in
    λ i. record { width = eqb-true a.width b.width both.0 i; height = eqb-true a.height b.height both.1 i }

pub rounded_same : (a b : Rounded) → same_rounded a b ≡ true → a ≡ b
rounded_same a b e =
    let r = and_parts (same_rects a.rect b.rect) (same_corners a.corner b.corner && beq a.inside b.inside) e in
    let c = and_parts (same_corners a.corner b.corner) (beq a.inside b.inside) r.1 in
    λ i. record { rect = rects_same a.rect b.rect r.0 i; corner = corners_same a.corner b.corner c.0 i; inside = (booleans_Decides a.inside b.inside).0 c.1 i }

pub marks_same : (a b : Mark) → same_marks a b ≡ true → a ≡ b
marks_same (Fill r s) (Fill q t) e = let both = and_parts (same_rects r q) (same_shades s t) e in λ i. Fill (rects_same r q both.0 i) (shades_same s t both.1 i)
marks_same (Frame r s) (Frame q t) e = let both = and_parts (same_rects r q) (same_shades s t) e in λ i. Frame (rects_same r q both.0 i) (shades_same s t both.1 i)
marks_same (Behind a) (Behind b) e = ap Behind (plates_same a b e)
marks_same (Text a) (Text b) e = let both = and_parts (same_pens a.pen b.pen) (same_baselines a.baseline b.baseline) e in λ i. Text (record { pen = pens_same a.pen b.pen both.0 i; baseline = baselines_same a.baseline b.baseline both.1 i })
marks_same (Cross r) (Cross q) e = ap Cross (rects_same r q e)
marks_same (Round r s) (Round q t) e = let both = and_parts (same_rounded r q) (same_shades s t) e in λ i. Round (rounded_same r q both.0 i) (shades_same s t both.1 i)
marks_same (Fill r s) (Frame q t) e = absurd (cc)
marks_same (Fill r s) (Behind q) e = absurd (cc)
marks_same (Fill r s) (Text q) e = absurd (cc)
marks_same (Frame r s) (Fill q t) e = absurd (cc)
marks_same (Frame r s) (Behind q) e = absurd (cc)
marks_same (Frame r s) (Text q) e = absurd (cc)
marks_same (Behind a) (Fill q t) e = absurd (cc)
marks_same (Behind a) (Frame q t) e = absurd (cc)
marks_same (Behind a) (Text q) e = absurd (cc)
marks_same (Text a) (Fill q t) e = absurd (cc)
marks_same (Text a) (Frame q t) e = absurd (cc)
marks_same (Text a) (Behind q) e = absurd (cc)
marks_same (Fill r s) (Cross q) e = absurd (cc)
marks_same (Frame r s) (Cross q) e = absurd (cc)
marks_same (Behind a) (Cross q) e = absurd (cc)
marks_same (Text a) (Cross q) e = absurd (cc)
marks_same (Cross r) (Fill q t) e = absurd (cc)
marks_same (Cross r) (Frame q t) e = absurd (cc)
marks_same (Cross r) (Behind q) e = absurd (cc)
marks_same (Cross r) (Text q) e = absurd (cc)
marks_same (Fill r s) (Round q t) e = absurd (cc)
marks_same (Frame r s) (Round q t) e = absurd (cc)
marks_same (Behind a) (Round q t) e = absurd (cc)
marks_same (Text a) (Round q t) e = absurd (cc)
marks_same (Cross r) (Round q t) e = absurd (cc)
marks_same (Round r s) (Fill q t) e = absurd (cc)
marks_same (Round r s) (Frame q t) e = absurd (cc)
marks_same (Round r s) (Behind q) e = absurd (cc)
marks_same (Round r s) (Text q) e = absurd (cc)
marks_same (Round r s) (Cross q) e = absurd (cc)

pub steps_same : (a b : Step) → a.on ≡ b.on → same_rects a.cut b.cut ≡ true → same_marks a.mark b.mark ≡ true → a ≡ b
steps_same a b on cut mark = λ i. record { on = on i; cut = rects_same a.cut b.cut cut i; mark = marks_same a.mark b.mark mark i }
