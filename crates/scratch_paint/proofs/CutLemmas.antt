-- Drawing where two regions meet.
use Rattle.std.proofs.Common.{◌≡◌, true, ◌&&◌, ◌∙◌}
use Rattle.std.proofs.lemmas.Bool.{and_parts}
use Rattle.std.specs.Borrow.{Bor}
use Rattle.tb_geom.specs.declared.point.Point.{Point}
use Rattle.tb_geom.specs.declared.rect.Rect.{Rect}
use Rattle.tb_geom.specs.Points.{PixelSet}
use Rattle.tb_geom.specs.Rects.{rect_holds}
use Rattle.tb_geom.specs.Pixels.{Pixels, holds}
use Rattle.bit_map.specs.Bits.{Bits}
use Rattle.bit_blit.specs.Draws.{Draws}
use Rattle.scan_region.specs.Cuts.{cut_meeting, cut_holds}
use Rattle.window_paint.proofs.CutLemmas.{cut_holds-both, painted_within}

-- what was drawn where two regions meet, in a clip around the second, by a value that is another's
pub drawn_in_both : (r s : Bor Pixels) (gray part : Pixels) (clip : Rect) (f g : PixelSet) (old new end : Bits)
    → r.now ≡ gray
    → s.now ≡ part
    → end ≡ new
    → ((p : Point) → holds part p ≡ true → rect_holds clip p ≡ true)
    → ((p : Point) → f p ≡ g p)
    → Draws (λ p. rect_holds clip p && cut_holds (cut_meeting r s) p) (λ p _. f p) old new
    → Draws (λ p. holds gray p && holds part p) (λ p _. g p) old end
drawn_in_both r s gray part clip f g old new end is_gray is_part is_end within same =
    painted_within (cut_meeting r s) (λ p. holds gray p && holds part p) clip (λ p _. f p) (λ p _. g p) old new end
    (λ p. cut_holds-both r s p ∙ (λ i. holds (is_gray i) p && holds (is_part i) p)) is_end
    (λ p e. within p (and_parts (holds gray p) (holds part p) e).1) (λ p _. same p)
