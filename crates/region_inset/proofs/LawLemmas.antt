-- What insets keep and gain, pixel by pixel.
use Rattle.std.proofs.Common.{◌≡◌, ◌↔◌, true, ℕ, suc, pos, negsuc}
use Rattle.tb_geom.specs.declared.point.Point.{Point}
use Rattle.tb_geom.specs.Points.{PixelSet}
use Rattle.region_inset.specs.Insets.{inset, inset_columns, IsNear}
use Rattle.region_inset.proofs.NearLemmas.{narrowed_everywhere, narrowed_somewhere}

pub inset_everywhere : (s : PixelSet) (n m : ℕ) (p : Point) → (inset s (pos n) (pos m) p ≡ true) ↔ ((q : Point) → IsNear n m p q → s q ≡ true)
inset_everywhere s n m p =
    let rows = narrowed_everywhere m (λ y. inset_columns s (pos n) (record { h = p.h; v = y })) p.v in (
      λ e q near. (narrowed_everywhere n (λ x. s (record { h = x; v = q.v })) p.h).0 (rows.0 e q.v near.top near.bottom) q.h near.left near.right,
      λ each. rows.1 (λ y top bottom. (narrowed_everywhere n (λ x. s (record { h = x; v = y })) p.h).1
          (λ x left right. each (record { h = x; v = y }) (record { left = left; right = right; top = top; bottom = bottom }))),
    )

pub inset_somewhere : (s : PixelSet) (n m : ℕ) (p : Point) → (inset s (negsuc n) (negsuc m) p ≡ true) ↔ ((q : Point) × IsNear (suc n) (suc m) p q × (s q ≡ true))
inset_somewhere s n m p =
    let rows = narrowed_somewhere m (λ y. inset_columns s (negsuc n) (record { h = p.h; v = y })) p.v in (
      λ e.
          let y = rows.0 e in
          let x = (narrowed_somewhere n (λ x. s (record { h = x; v = y.0 })) p.h).0 y.3 in
          (record { h = x.0; v = y.0 }, record { left = x.1; right = x.2; top = y.1; bottom = y.2 }, x.3),
      λ one.
          let q : Point = one.0 in
          let near = one.1 in
          rows.1 (q.v, near.top, near.bottom, (narrowed_somewhere n (λ x. s (record { h = x; v = q.v })) p.h).1 (q.h, near.left, near.right, one.2)),
    )
