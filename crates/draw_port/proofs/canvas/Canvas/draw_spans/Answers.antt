use Rattle.std.proofs.Common.{◌≡◌, rules, arith, refl, sym, ap, subst, ◌∙◌, ◌++◌, ◌&&◌, SFits, w32}
use Rattle.std.specs.List.{list_any}
use Rattle.std.proofs.lemmas.List.{append-nil}
use Rattle.std.proofs.lemmas.Int.{ints}
use Rattle.tb_geom.specs.Rects.{rect_holds, empty_rect}
use Rattle.scan_region.specs.Cuts.{cut_holds}
use Rattle.scan_region.specs.Scan.{IsScanOf, span_holds}
use Rattle.bit_blit.proofs.SpansLemmas.{spans_hold, scan_step}
use Rattle.bit_blit.proofs.DrawsLemmas.{Draws-where}
use Rattle.draw_port.specs.Canvases.{canvas_holds, canvas_point}
use Rattle.draw_port.proofs.CanvasLemmas.{SameFrame-none, SameFrame-then}
use Rattle.draw_port.proofs.ClippedLemmas.{IsNext, grown, grown_row, row_rect, nothing-within, no_block, span_row, block_more, block_more-within, block_drawn, block_next, block_next-within}
use Rattle.draw_port.proofs.canvas.Canvas.draw_spans.Goals as goal

pub loop-span-init : goal.loop-span-init
loop-span-init g c = record {
  same_map = refl;
  same_frame = SameFrame-none c.args.self.now;
  scan = rw c.into_iter-span-iterator.ensures.into_iter_gives c.spans_within-span-items.ensures;
  upright = omega (arith, ints);
  within = nothing-within;
  drawn = no_block c.args.self.now _ empty_rect c.args.self.now.map.now;
}

pub grown-block-requires : goal.grown-block-requires
grown-block-requires g c =
    let span = c.in-Some.span in
    let block = c.loop-span.block in
    let fits_b : SFits w32 c.args.rect.bottom = search rules in
    let below : (span.left ≡ block.left) × ((span.right ≡ block.right) × (span.v ≡ block.bottom)) = c.is_below.ensures c.if-is_below.true in
    let next : IsNext c.loop-span.yielded span c.loop-span.span-iterator (λ p. rect_holds c.args.rect p && cut_holds c.args.cut.now p) = record { after = c.next.new.self; rest_is = c.in-Some.ensures.steps; scan = c.loop-span.invariant.scan } in
    grown_row span.v block.bottom below.1.1 (span_row c.loop-span.yielded span c.loop-span.span-iterator c.args.rect (cut_holds c.args.cut.now) next fits_b)

pub loop-span-preserved-then-is_below : goal.loop-span-preserved-then-is_below
loop-span-preserved-then-is_below g c =
    let canvas = c.args.self.now in
    let span = c.in-Some.span in
    let block = c.loop-span.block in
    let was = c.loop-span.invariant in
    let below : (span.left ≡ block.left) × ((span.right ≡ block.right) × (span.v ≡ block.bottom)) = c.is_below.ensures c.if-is_below.true in
    let next : IsNext c.loop-span.yielded span c.loop-span.span-iterator (λ p. rect_holds c.args.rect p && cut_holds c.args.cut.now p) = record { after = c.next.new.self; rest_is = c.in-Some.ensures.steps; scan = was.scan } in
    let is_grown : c.grown-block.result ≡ grown block = c.grown-block.ensures in
    rw is_grown (record {
      same_map = was.same_map;
      same_frame = was.same_frame;
      scan = scan_step _ _ _ _ _ c.in-Some.ensures.steps was.scan;
      upright = omega (arith, ints, was.upright);
      within = block_more-within c.loop-span.yielded span block was.upright below was.within;
      drawn = block_more canvas _ c.loop-span.yielded span c.loop-span.span-iterator (λ p. rect_holds c.args.rect p && cut_holds c.args.cut.now p) block _ _ next was.upright below was.drawn;
    })

pub row_of-block-requires : goal.row_of-block-requires
row_of-block-requires g c =
    let fits_b : SFits w32 c.args.rect.bottom = search rules in
    let next : IsNext c.loop-span.yielded c.in-Some.span c.loop-span.span-iterator (λ p. rect_holds c.args.rect p && cut_holds c.args.cut.now p) = record { after = c.next.new.self; rest_is = c.in-Some.ensures.steps; scan = c.loop-span.invariant.scan } in
    span_row c.loop-span.yielded c.in-Some.span c.loop-span.span-iterator c.args.rect (cut_holds c.args.cut.now) next fits_b

pub loop-span-preserved : goal.loop-span-preserved
loop-span-preserved g c =
    let canvas = c.args.self.now in
    let span = c.in-Some.span in
    let was = c.loop-span.invariant in
    let next : IsNext c.loop-span.yielded span c.loop-span.span-iterator (λ p. rect_holds c.args.rect p && cut_holds c.args.cut.now p) = record { after = c.next.new.self; rest_is = c.in-Some.ensures.steps; scan = was.scan } in
    let is_row : c.row_of-block.result ≡ row_rect span = c.row_of-block.ensures in
    let all = block_drawn canvas c.loop-span.self (g.R.Rule.value c.args.rule.now) (spans_hold c.loop-span.yielded) c.loop-span.block _ _ _ was.same_frame was.within was.drawn c.draw.ensures.drawn in
    rw is_row (record {
      same_map = c.draw.ensures.same_map ∙ was.same_map;
      same_frame = SameFrame-then _ _ _ was.same_frame c.draw.ensures.same_frame;
      scan = scan_step _ _ _ _ _ c.in-Some.ensures.steps was.scan;
      upright = omega (arith, ints);
      within = block_next-within c.loop-span.yielded span;
      drawn = block_next canvas _ c.loop-span.yielded span c.loop-span.span-iterator (λ p. rect_holds c.args.rect p && cut_holds c.args.cut.now p) _ _ next all;
    })

pub returns-clause-drawn : goal.returns-clause-drawn
returns-clause-drawn g c =
    let canvas = c.args.self.now in
    let was = c.loop-span.invariant in
    let value = g.R.Rule.value c.args.rule.now in
    let scan = subst (λ l. IsScanOf (c.loop-span.yielded ++ l) (λ p. rect_holds c.args.rect p && cut_holds c.args.cut.now p)) c.in-None.ensures.steps.0 was.scan in
    let all = block_drawn canvas c.loop-span.self value (spans_hold c.loop-span.yielded) c.loop-span.block _ _ _ was.same_frame was.within was.drawn c.draw-2.ensures.drawn in
    Draws-where _ _ _ _ _
    (λ p on. ap (λ t. canvas_holds canvas p && t) (sym (scan.pixels (canvas_point canvas p) ∙ ap (λ l. list_any (λ s. span_holds s (canvas_point canvas p)) l) (append-nil c.loop-span.yielded))))
    all

pub returns-clause-same_frame : goal.returns-clause-same_frame
returns-clause-same_frame g c = SameFrame-then _ _ _ c.loop-span.invariant.same_frame c.draw-2.ensures.same_frame
