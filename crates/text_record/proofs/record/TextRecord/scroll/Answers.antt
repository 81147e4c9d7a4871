use Rattle.std.proofs.Common.{◌≡◌, false, ◌∙◌, ap, rules, SFits, w32, is_ok}
use Rattle.std.proofs.lemmas.Int.{to_z-of_z}
use Rattle.text_record.specs.Texts.{Record}
use Rattle.text_record.proofs.ShowLemmas.{not_down}
use Rattle.text_record.proofs.record.TextRecord.scroll.Goals as goal

pub returns-in_err-top-clause-allowed : goal.returns-in_err-top-clause-allowed
returns-in_err-top-clause-allowed c =
    let top : SFits w32 c.self.inside.top = search rules in
    let down : SFits w32 c.args.down = search rules in
    let out = simp to_z-of_z at c.in_err-top.ensures.allowed in
    let refused : is_ok c.from_residual-in_err-top.result ≡ false = search rules in
    refused ∙ not_down c.args.across c.args.down c.self.inside.top c.args.self.now (ap (λ (r : Record). r.top) c.self.view_is) out
