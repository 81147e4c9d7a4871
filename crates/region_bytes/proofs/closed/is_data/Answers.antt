use Rattle.std.proofs.Common.{sym, ◌∙◌, rules, arith}
use Rattle.std.proofs.lemmas.Bool.{false≢true}
use Rattle.region_bytes.proofs.Data.{words_fit, data_found, data_rows, data_columns}
use Rattle.region_bytes.proofs.closed.is_data.Goals as goal

pub returns-then-not-are_rows_of : goal.returns-then-not-are_rows_of
returns-then-not-are_rows_of c = (
  λ t. absurd (search rules),
  λ d. absurd (false≢true (sym c.if-not-are_rows_of.true ∙ c.are_rows_of.ensures ∙ data_rows _ d)),
)

pub returns : goal.returns
returns c = (
  λ t. data_found _ (words_fit c.args.bytes.now (λ i. let f = c.type_inv.bytes i in omega arith)) (sym c.are_rows_of.ensures ∙ c.if-not-are_rows_of.false) (c.is_closed.ensures.0 t),
  λ d. c.is_closed.ensures.1 (data_columns _ d),
)
