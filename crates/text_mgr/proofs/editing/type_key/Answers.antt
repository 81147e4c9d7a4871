use Rattle.std.proofs.Common.{rules, [], ◌∷◌, ◌≡◌, None, Some, SFits, w32, sym, ◌∙◌}
use Rattle.std.specs.Prelude.{if◌then◌else◌, nat_abs, pos}
use Rattle.std.proofs.lemmas.Int.{to_z-of_z}
use Rattle.text_edits.specs.Edits.{is_typed}
use Rattle.text_record.specs.Changes.{is_too_long}
use Rattle.text_mgr.specs.CallEdits.{is_outside}
use Rattle.text_mgr.proofs.Judged.{key_judged}
use Rattle.text_mgr.proofs.editing.type_key.Goals as goal

pub returns-in-Some-clause-judged : goal.returns-in-Some-clause-judged
returns-in-Some-clause-judged c =
    let r = c.args.record.now in
    let number : SFits w32 c.args.number = search rules in
    let code : c.key_of.result ≡ (if is_outside (pos 0) (pos 255) c.args.number then None else Some (nat_abs c.args.number)) = simp to_z-of_z at c.key_of.ensures in
    key_judged (is_outside (pos 0) (pos 255) c.args.number) (nat_abs c.args.number) c.in-Some.code c.key.result is_typed (λ k. is_too_long r.start r.end (k ∷ []) r)
    (sym code ∙ c.in-Some.is) c.key.ensures.allowed c.key.ensures.typed c.key.ensures.refused
