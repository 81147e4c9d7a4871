use Rattle.std.proofs.Common.{refl, rules}
use Rattle.scratch_paint.proofs.CutLemmas.{drawn_in_both}
use Rattle.scratch_paint.proofs.windows.paint_layer.Goals as goal

pub returns : goal.returns
returns g c =
    drawn_in_both c.args.gray c.args.region c.args.gray.now c.args.region.now c.bbox-clip.result _ _ c.args.image.now c.draw.new.canvas.map.now _ refl refl (search rules) (λ p e. c.bbox-clip.ensures.exact.holds p e) (λ p. refl) (rw c.meeting-cut.ensures at c.draw.ensures.drawn)
