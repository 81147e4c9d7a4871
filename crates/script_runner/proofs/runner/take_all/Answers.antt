use Rattle.std.proofs.Common.{arith, refl, ◌∙◌, subst}
use Rattle.std.proofs.lemmas.List.{drop_all}
use Rattle.std.proofs.lemmas.Bool.{false≢true}
use Rattle.std.proofs.lemmas.Result.{err_from_is_err_and}
use Rattle.script_runner.specs.Progress.{SoFar}
use Rattle.script_runner.proofs.Ends.{next, taken, taken_last}
use Rattle.script_runner.proofs.runner.take_all.Goals as goal

pub loop-byte-init : goal.loop-byte-init
loop-byte-init g c = record { ready = c.requires.ready; quiet = c.requires.unfailed; same = (refl, refl); so_far = λ first input rest old so_far. so_far }

pub returns-in_err-take-clause-goes_on : goal.returns-in_err-take-clause-goes_on
returns-in_err-take-clause-goes_on g c = λ first input rest old so_far.
    let p = err_from_is_err_and c.from_residual.result c.from_residual.ensures.1 in
    rw (p.1, p.2) (taken_last c.args.writer.now.raw _ _ _ _ _ _ _ _ _ (next c.args.writer.now.raw _ _ _ _ _ _ _ c.args.bytes.now c.loop-byte.byte-index (omega arith) (c.loop-byte.invariant.so_far first input rest old so_far)) _ _ (Unit {0}) c.in_err-take.field-0.0
    (rw c.loop-byte.invariant.same.1 at c.in_err-take.ensures.newline) (λ ne. false≢true (c.in_err-take.ensures.other ne).0))

pub loop-byte-preserved : goal.loop-byte-preserved
loop-byte-preserved g c = record {
  ready = c.in_ok-take.ensures.ready;
  quiet = c.in_ok-take.ensures.quiet;
  same = (c.in_ok-take.ensures.same.0 ∙ c.loop-byte.invariant.same.0, c.in_ok-take.ensures.same.1 ∙ c.loop-byte.invariant.same.1);
  so_far = λ first input rest old so_far.
      taken c.args.writer.now.raw _ _ _ _ _ _ _ _ _ (next c.args.writer.now.raw _ _ _ _ _ _ _ c.args.bytes.now c.loop-byte.byte-index (omega arith) (c.loop-byte.invariant.so_far first input rest old so_far)) _ _ _ c.in_ok-take.field-0
      (rw c.loop-byte.invariant.same.1 at c.in_ok-take.ensures.newline) c.in_ok-take.ensures.cleared (λ ne. let o = c.in_ok-take.ensures.other ne in (o.1, o.2, o.3));
}

pub returns-clause-goes_on : goal.returns-clause-goes_on
returns-clause-goes_on g c = λ first input rest old so_far.
    subst (SoFar c.args.writer.now.raw first input old rest _ _ _) (drop_all _ _ c.loop-byte-test.false) (c.loop-byte.invariant.so_far first input rest old so_far)
