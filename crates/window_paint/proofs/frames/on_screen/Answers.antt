use Rattle.std.proofs.Common.{sym, ap, ◌∙◌}
use Rattle.std.proofs.lemmas.Bool.{and_parts}
use Rattle.tb_geom.specs.Points.{minus}
use Rattle.tb_geom.specs.Rects.{is_in_range, moved_rect, rect_holds}
use Rattle.tb_geom.proofs.RectLemmas.{holds-moved}
use Rattle.window_paint.proofs.FrameLemmas.{shared_stays, inside_is_point, shared_is}
use Rattle.window_paint.proofs.frames.on_screen.Goals as goal

pub moved-requires : goal.moved-requires
moved-requires g c =
    shared_stays c.sect.result c.bounds.result c.args.window.now.place
    (λ p e. (and_parts (rect_holds c.args.rect p) (rect_holds c.bounds.result p) (sym (c.sect.ensures.pixels p) ∙ e)).1)
    c.sect.ensures.none c.requires.placed
    (ap (λ r. is_in_range (moved_rect r c.args.window.now.place.h c.args.window.now.place.v)) c.bounds.ensures.value ∙ c.requires.inside)

pub returns-clause-pixels : goal.returns-clause-pixels
returns-clause-pixels g c p e =
    let there = minus p c.args.window.now.place in
    ap (λ r. rect_holds r p) c.moved.ensures ∙ holds-moved c.sect.result c.args.window.now.place.h c.args.window.now.place.v p ∙ c.sect.ensures.pixels there ∙ shared_is (rect_holds c.args.rect there) (rect_holds c.bounds.result there) (c.bounds.ensures.exact.holds there e)

pub returns-clause-near : goal.returns-clause-near
returns-clause-near g c p e =
    inside_is_point c.bounds.result (minus p c.args.window.now.place) (ap is_in_range c.bounds.ensures.value ∙ (and_parts _ _ c.requires.fits).1) (c.bounds.ensures.exact.holds (minus p c.args.window.now.place) e)
