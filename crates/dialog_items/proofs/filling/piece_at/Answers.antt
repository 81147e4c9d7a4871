use Rattle.std.proofs.Common.{sym, ap, ◌∙◌, ◌+◌, ◌++◌, drop}
use Rattle.dialog_items.specs.Filling.{filled, lent_params}
use Rattle.dialog_items.proofs.FillLemmas.{long-from, param-piece, plain-piece}
use Rattle.dialog_items.proofs.filling.piece_at.Goals as goal

pub bounds-bytes-at : goal.bounds-bytes-at
bounds-bytes-at c = long-from c.args.bytes.now c.args.at (sym c.is_param.ensures ∙ c.if-is_param.true)

pub returns-then-is_param-clause-made : goal.returns-then-is_param-clause-made
returns-then-is_param-clause-made c =
    param-piece (lent_params c.args.params) c.args.bytes.now c.args.at (sym c.is_param.ensures ∙ c.if-is_param.true)
    ∙ ap (λ text. text ++ filled (lent_params c.args.params) (drop (c.args.at + 2) c.args.bytes.now)) (sym c.of_digit.ensures)

pub returns-else-is_param-clause-made : goal.returns-else-is_param-clause-made
returns-else-is_param-clause-made c = plain-piece (lent_params c.args.params) c.args.bytes.now c.args.at c.requires (sym c.is_param.ensures ∙ c.if-is_param.false)
