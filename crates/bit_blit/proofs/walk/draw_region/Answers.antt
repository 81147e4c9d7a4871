use Rattle.bit_blit.proofs.OnceLemmas.{Once-where}
use Rattle.bit_blit.proofs.SpansLemmas.{one-part}
use Rattle.bit_blit.proofs.walk.draw_region.Goals as goal

pub returns : goal.returns
returns g c = Once-where _ _ _ _ _ (λ x on. one-part c.args.region c.bbox.result c.bbox.ensures.exact x) (rw c.cut_inside-cut.ensures at c.draw_cut.ensures)
