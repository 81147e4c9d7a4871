use Rattle.std.proofs.Common.{◌≡◌, true, false, ℤ, pos, [], ◌++◌, ap, sym, ◌∙◌, SFits, w32, rules, arith, if◌then◌else◌}
use Rattle.std.specs.Prelude.{int_le, int_lt}
use Rattle.std.proofs.lemmas.Int.{ints, to_z-of_z}
use Rattle.command_words.specs.Drawings.{form_operations, frame_operations}
use Rattle.line_words.specs.Tables.{named}
use Rattle.command_words.proofs.operation.later_operation_of.Goals as goal

-- a version that is not before the third has forms
has_forms : (version : ℤ) → int_lt version (pos 3) ≡ false → int_le (pos 3) version ≡ true
has_forms version e = grind (arith, ints)

pub returns : goal.returns
returns c =
    let fits : SFits w32 c.args.version = search rules in
    let has = has_forms c.args.version (simp to_z-of_z at c.if-version-lt-VERSION_OF_FORMS.false) in
    c.shape_operation_of.ensures ∙ ap (λ t. named c.args.word.now (if t then frame_operations ++ form_operations else [])) (sym has)
