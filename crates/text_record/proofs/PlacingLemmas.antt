-- Where a text may stand, in numbers.
use Rattle.std.proofs.Common.{sym, ◌≡◌, ℕ, ◌≤◌, Bool, true, false, ◌&&◌, ℤ, pos, negsuc, ◌+ℤ◌, ◌≤ℤ◌, arith}
use Rattle.std.specs.Bool.{OnTrue}
use Rattle.std.proofs.lemmas.Bool.{and_parts}
use Rattle.std.proofs.lemmas.Bool.Decides.{nat_tests}
use Rattle.std.proofs.lemmas.Int.{ints}
use Rattle.tb_geom.specs.declared.rect.Rect.{Rect}
use Rattle.tb_geom.specs.Rects.{is_coordinate, is_in_range}
use Rattle.text_record.specs.declared.placing.Placing.{Placing}
use Rattle.text_record.specs.Placings.{widened, box_of, is_near, is_span, is_sized, is_width, is_placing, IsPlacing}

near_from : (x : ℤ) → is_near x ≡ true → negsuc 16777215 ≤ℤ x
near_from x e = grind (arith, ints)

near_to : (x : ℤ) → is_near x ≡ true → x ≤ℤ pos 16777215
near_to x e = grind (arith, ints)

span_of : (low high : ℤ) → is_span low high ≡ true → (low +ℤ pos 1) ≤ℤ high
span_of low high e = grind (arith, ints)

span_to : (low high : ℤ) → is_span low high ≡ true → high ≤ℤ (low +ℤ pos 1024)
span_to low high e = grind (arith, ints)

width_from : (n : ℕ) → is_width n ≡ true → 1 ≤ n
width_from n e = grind (arith, nat_tests)

width_to : (n : ℕ) → is_width n ≡ true → n ≤ 16383
width_to n e = grind (arith, nat_tests)

low_from : (x : ℤ) → is_coordinate (x +ℤ negsuc 2) ≡ true → negsuc 16383 ≤ℤ x
low_from x e = grind (arith, ints)

high_to : (x : ℤ) → is_coordinate (x +ℤ pos 3) ≡ true → x ≤ℤ pos 16383
high_to x e = grind (arith, ints)

low_side : (x : ℤ) → is_coordinate x ≡ true → negsuc 16383 ≤ℤ x
low_side x e = grind (arith, ints)

high_side : (x : ℤ) → is_coordinate x ≡ true → x ≤ℤ pos 16383
high_side x e = grind (arith, ints)

record IsInPlane (v : Rect) : Type 0 where
  left : negsuc 16383 ≤ℤ v.left
  right : v.right ≤ℤ pos 16383
  top : negsuc 16383 ≤ℤ v.top
  bottom : v.bottom ≤ℤ pos 16383

sides_in : (r : Rect) → is_in_range r ≡ true → (is_coordinate r.left ≡ true) × (is_coordinate r.top ≡ true) × (is_coordinate r.right ≡ true) × (is_coordinate r.bottom ≡ true)
sides_in v e =
    let l = and_parts (is_coordinate v.left) (is_coordinate v.top && (is_coordinate v.right && is_coordinate v.bottom)) e in
    let t = and_parts (is_coordinate v.top) (is_coordinate v.right && is_coordinate v.bottom) l.1 in
    let r = and_parts (is_coordinate v.right) (is_coordinate v.bottom) t.1 in
    (l.0, t.0, r.0, r.1)

in_plane : (framed : Bool) (v : Rect) → is_in_range (box_of framed v) ≡ true → IsInPlane v
in_plane true v e =
    let s = sides_in (widened v) e in
    record { left = low_from v.left s.0; right = high_to v.right s.2; top = low_from v.top s.1; bottom = high_to v.bottom s.3 }
in_plane false v e =
    let s = sides_in v e in
    record { left = low_side v.left s.0; right = high_side v.right s.2; top = low_side v.top s.1; bottom = high_side v.bottom s.3 }

-- where a text may stand, its numbers are those of a record
pub placing_numbers : (framed : Bool) (p : Placing) → is_placing framed p ≡ true → IsPlacing p.left p.top p.width p.view
placing_numbers framed p e =
    let a = and_parts (is_near p.left) (is_near p.top && (is_width p.width && (is_sized p.view && is_in_range (box_of framed p.view)))) e in
    let b = and_parts (is_near p.top) (is_width p.width && (is_sized p.view && is_in_range (box_of framed p.view))) a.1 in
    let c = and_parts (is_width p.width) (is_sized p.view && is_in_range (box_of framed p.view)) b.1 in
    let d = and_parts (is_sized p.view) (is_in_range (box_of framed p.view)) c.1 in
    let spans = and_parts (is_span p.view.left p.view.right) (is_span p.view.top p.view.bottom) d.0 in
    let v = in_plane framed p.view d.1 in
    record {
      left_from = near_from p.left a.0;
      left_to = near_to p.left a.0;
      top_from = near_from p.top b.0;
      top_to = near_to p.top b.0;
      width_from = width_from p.width c.0;
      width_to = width_to p.width c.0;
      view_left_from = v.left;
      view_right_to = v.right;
      view_top_from = v.top;
      view_bottom_to = v.bottom;
      view_columns = span_of p.view.left p.view.right spans.0;
      view_rows = span_of p.view.top p.view.bottom spans.1;
      view_columns_to = span_to p.view.left p.view.right spans.0;
      view_rows_to = span_to p.view.top p.view.bottom spans.1;
    }

pub on_placing : (b framed : Bool) (p : Placing) → b ≡ is_placing framed p → OnTrue b (IsPlacing p.left p.top p.width p.view)
on_placing true framed p e = placing_numbers framed p (sym e)
on_placing false framed p e = tt
