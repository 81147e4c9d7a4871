use Rattle.std.proofs.Common.{rules, [], refl, sym, ap, subst, ◌∙◌, ◌++◌, ◌&&◌, SFits, w32}
use Rattle.std.specs.List.{list_any}
use Rattle.std.proofs.lemmas.List.{append-nil}
use Rattle.scan_region.specs.Scan.{IsScanOf, span_holds}
use Rattle.std.proofs.lemmas.Int.{to_z-of_z}
use Rattle.tb_geom.specs.Rects.{rect_holds}
use Rattle.scan_region.specs.Cuts.{cut_holds}
use Rattle.bit_blit.proofs.SpansLemmas.{spans_hold, spans_step, scan_step}
use Rattle.bit_blit.proofs.OnceLemmas.{Once-none, Once-where}
use Rattle.bit_blit.proofs.walk.draw_spans.Goals as goal

pub loop-span-preserved : goal.loop-span-preserved
loop-span-preserved g c =
    let span = c.in-Some.span in
    let fits_s : SFits w32 span.v = search rules in
    let fits_l : SFits w32 span.left = search rules in
    let fits_r : SFits w32 span.right = search rules in
    let drawn = simp to_z-of_z at c.draw_span.ensures in
    record {
      scan = scan_step _ _ _ _ _ c.in-Some.ensures.steps c.loop-span.invariant.scan;
      drawn = spans_step _ _ _ _ (λ p. rect_holds c.args.area p && cut_holds c.args.cut.now p) c.loop-span.yielded span _ c.next.new.self c.in-Some.ensures.steps c.loop-span.invariant.scan c.loop-span.invariant.drawn drawn;
    }

pub loop-span-init : goal.loop-span-init
loop-span-init g c = record {
  scan = rw c.into_iter-span-iterator.ensures.into_iter_gives c.spans_within-span-items.ensures;
  drawn = Once-none (spans_hold []) _ _ (λ x on. refl);
}

pub returns : goal.returns
returns g c =
    let scan = subst (λ l. IsScanOf (c.loop-span.yielded ++ l) (λ p. rect_holds c.args.area p && cut_holds c.args.cut.now p)) c.in-None.ensures.steps.0 c.loop-span.invariant.scan in
    Once-where (spans_hold c.loop-span.yielded) (λ p. rect_holds c.args.area p && cut_holds c.args.cut.now p) _ _ _ (λ x on. sym (scan.pixels x ∙ ap (λ l. list_any (λ s. span_holds s x) l) (append-nil c.loop-span.yielded))) c.loop-span.invariant.drawn
