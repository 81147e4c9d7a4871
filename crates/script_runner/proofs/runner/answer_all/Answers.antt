use Rattle.std.proofs.Common.{◌≡◌, ◌+◌, ◌<◌, [], length, take, SFits, w32, subst, refl, ap, ◌∙◌, arith, rules}
use Rattle.std.proofs.lemmas.Int.{to_z-of_z}
use Rattle.std.proofs.lemmas.List.{length-take}
use Rattle.std.proofs.lemmas.Result.{err_from_is_err_and}
use Rattle.watched_io.specs.Reads.{Gave}
use Rattle.script_runner.proofs.Ends.{start, read_more, finished}
use Rattle.script_runner.proofs.runner.answer_all.Goals as goal

pub loop-read-init : goal.loop-read-init
loop-read-init g c = record {
  ready = c.requires.ready;
  quiet = c.requires.unfailed;
  same = (refl, refl);
  so_far = rw c.new-line.ensures (start c.args.writer.now.raw _ _ _ c.requires.going);
  counted = c.requires.unread;
}

pub returns-then-count-eq0-clause-ends : goal.returns-then-count-eq0-clause-ends
returns-then-count-eq0-clause-ends g c =
    let none : take c.in_ok-count.count c.read_some.new.buffer ≡ [] = rw c.if-count-eq0.true refl in
    let fits : SFits w32 c.version-version.result = search rules in
    let said = simp to_z-of_z at c.said_last.ensures in
    finished c.args.writer.now.raw _ _ _ _ _ _ _ _ c.loop-read.invariant.so_far (subst (Gave _ _) none c.in_ok-count.ensures.bytes) _ _ c.answer.result c.said_last.result (rw c.version-version.ensures at said) (rw c.loop-read.invariant.same.1 at c.answer.ensures.ends)

pub returns-in_err-take_all-clause-ends : goal.returns-in_err-take_all-clause-ends
returns-in_err-take_all-clause-ends g c =
    let p = err_from_is_err_and c.from_residual-in_err-take_all.result c.from_residual-in_err-take_all.ensures.1 in
    let some : 0 < length (take c.in_ok-count.count c.read_some.new.buffer) = omega (arith, length-take c.in_ok-count.count c.read_some.new.buffer) in
    rw (p.1, p.2) ((rw c.loop-read.invariant.same.1 at c.in_err-take_all.ensures.goes_on) _ _ _ _ (read_more c.args.writer.now.raw _ _ _ _ _ _ _ _ _ c.loop-read.invariant.so_far c.in_ok-count.ensures.bytes some))

pub loop-read-preserved : goal.loop-read-preserved
loop-read-preserved g c =
    let some : 0 < length (take c.in_ok-count.count c.read_some.new.buffer) = omega (arith, length-take c.in_ok-count.count c.read_some.new.buffer) in
    record {
      ready = c.in_ok-take_all.ensures.ready;
      quiet = c.in_ok-take_all.ensures.quiet;
      same = (c.in_ok-take_all.ensures.same.0 ∙ c.loop-read.invariant.same.0, c.in_ok-take_all.ensures.same.1 ∙ c.loop-read.invariant.same.1);
      so_far = (rw c.loop-read.invariant.same.1 at c.in_ok-take_all.ensures.goes_on) _ _ _ _ (read_more c.args.writer.now.raw _ _ _ _ _ _ _ _ _ c.loop-read.invariant.so_far c.in_ok-count.ensures.bytes some);
      counted = c.in_ok-count.ensures.bytes.counted ∙ ap (λ n. n + 1) c.loop-read.invariant.counted;
    }
