use Rattle.std.proofs.Common.{◌∙◌, rules}
use Rattle.std.proofs.lemmas.Result.{IfOk-weaker}
use Rattle.region_rows.proofs.Above.{one_out, kept_apart, kept_under}
use Rattle.region_rows.proofs.apart.combined_rows.Goals as goal

pub returns-then-is_above-clause-pixels : goal.returns-then-is_above-clause-pixels
returns-then-is_above-clause-pixels c =
    let above = c.is_above.ensures.0 (search rules) in
    IfOk-weaker c.apart_rows.result _ _ (λ rows pixels h v. pixels h v ∙ kept_apart c.args.operator _ _ (one_out _ _ c.requires.a_rows above h v)) c.apart_rows.ensures.pixels

pub returns-then-is_above-2-clause-pixels : goal.returns-then-is_above-2-clause-pixels
returns-then-is_above-2-clause-pixels c =
    let above = c.is_above-2.ensures.0 (search rules) in
    IfOk-weaker c.apart_rows-then-is_above-2.result _ _ (λ rows pixels h v. pixels h v ∙ kept_under c.args.operator _ _ (one_out _ _ c.requires.b_rows above h v)) c.apart_rows-then-is_above-2.ensures.pixels
