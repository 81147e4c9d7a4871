use Rattle.std.proofs.Common.{◌∙◌, sym}
use Rattle.bit_blit.proofs.SpansLemmas.{scan_step}
use Rattle.bit_blit.proofs.ShiftLemmas.{both-on, shift_step, clean_up, clean_down, apart_up, apart_down, scan_up_step, shift_all, same_up}
use Rattle.bit_blit.proofs.shifting.shift.Goals as goal

pub shift_span-requires : goal.shift_span-requires
shift_span-requires c = λ p. c.area_with_source-area.ensures p ∙ sym (both-on _ _ p _ c.up.invariant.drawn.width c.up.invariant.drawn.height)

pub shift_span-requires-in-down : goal.shift_span-requires-in-down
shift_span-requires-in-down c = λ p. c.area_with_source-area.ensures p ∙ sym (both-on _ _ p _ c.down.invariant.drawn.width c.down.invariant.drawn.height)

pub up-preserved : goal.up-preserved
up-preserved c =
    let span = c.in-Some.span in
    let way = sym c.is_onward.ensures ∙ c.if-is_onward.true in
    record {
      scan = scan_up_step c.args.region.now c.up.yielded span c.up.span-iterator c.next.new.self c.in-Some.ensures.steps c.up.invariant.scan;
      drawn = shift_step _ _ _ c.args.distance c.up.yielded span (clean_up c.args.region.now c.up.yielded span _ _ c.args.distance way c.in-Some.ensures.steps c.up.invariant.scan) (apart_up c.args.region.now c.up.yielded span _ _ c.in-Some.ensures.steps c.up.invariant.scan) c.up.invariant.drawn c.shift_span.ensures;
    }

pub down-preserved : goal.down-preserved
down-preserved c =
    let span = c.in-Some-span.span in
    let way = sym c.is_onward.ensures ∙ c.if-is_onward.false in
    record {
      scan = scan_step _ _ _ _ _ c.in-Some-span.ensures.steps c.down.invariant.scan;
      drawn = shift_step _ _ _ c.args.distance c.down.yielded span (clean_down c.args.region.now c.down.yielded span _ _ c.args.distance way c.in-Some-span.ensures.steps c.down.invariant.scan) (apart_down c.args.region.now c.down.yielded span _ _ c.in-Some-span.ensures.steps c.down.invariant.scan) c.down.invariant.drawn c.shift_span-in-down.ensures;
    }

pub returns-in-None : goal.returns-in-None
returns-in-None c = shift_all c.args.region.now c.up.yielded _ _ _ c.args.distance c.up.invariant.scan (λ x. same_up c.up.yielded _ x c.in-None.ensures.steps.0) c.up.invariant.drawn
