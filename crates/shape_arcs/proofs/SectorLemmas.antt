-- Sectors of ovals.
use Rattle.std.proofs.Common.{◌≡◌, ◌&&◌, not, Bool, true, false, ℤ, refl, sym, ◌∙◌}
use Rattle.std.proofs.lemmas.Bool.{and_left}
use Rattle.tb_geom.specs.declared.point.Point.{Point}
use Rattle.tb_geom.specs.declared.rect.Rect.{Rect}
use Rattle.tb_geom.specs.Rects.{rect_holds}
use Rattle.shape_strips.specs.Rounds.{oval_corner, oval_holds}
use Rattle.shape_strips.proofs.RoundLemmas.{outside_rect}
use Rattle.shape_arcs.specs.Halves.{half_holds, sector_holds}

pub no_sector : (r : Rect) (start end : ℤ) (narrow : Bool) (p : Point) → rect_holds r p ≡ false → sector_holds r start end narrow p ≡ false
no_sector r start end narrow p out = and_left _ _ (outside_rect r (oval_corner r) p out)

-- what two halves and the oval share
pub shared_sector : (r : Rect) (start end : ℤ) (narrow : Bool) (p : Point)
    → (oval_holds r p && (half_holds r start narrow p && half_holds r end (not narrow) p)) ≡ sector_holds r start end narrow p
shared_sector r start end narrow p = within (oval_holds r p) (rect_holds r p) _ _ (outside_rect r (oval_corner r) p)
  where
    within : (o i a b : Bool) → (i ≡ false → o ≡ false) → (o && ((i && a) && (i && b))) ≡ (o && (a && b))
    within o true a b f = refl
    within o false a b f = (λ j. f refl j && false) ∙ sym (λ j. f refl j && (a && b))
