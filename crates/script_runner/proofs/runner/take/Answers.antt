use Rattle.std.proofs.Common.{SFits, w32, rules}
use Rattle.std.proofs.lemmas.Int.{to_z-of_z}
use Rattle.std.proofs.lemmas.Result.{err_from_is_err_and}
use Rattle.script_runner.proofs.runner.take.Goals as goal

pub returns-in_err-answer-clause-newline : goal.returns-in_err-answer-clause-newline
returns-in_err-answer-clause-newline g c = λ is.
    let fits : SFits w32 c.version-version.result = search rules in
    let said = simp to_z-of_z at c.said.ensures in
    let p = err_from_is_err_and c.from_residual.result c.from_residual.ensures.1 in
    rw (p.1, p.2) (rw (rw c.version-version.ensures at said) at c.in_err-answer.ensures.ends)
