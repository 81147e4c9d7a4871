use Rattle.std.proofs.Common.{ap, sym, ◌∙◌}
use Rattle.looks.specs.Marks.{look_bit}
use Rattle.std_wdef.proofs.round_look.round_damage.Goals as goal

pub returns-then-is_in_range-clause-alike : goal.returns-then-is_in_range-clause-alike
returns-then-is_in_range-clause-alike c = λ u t same p inside out.
    sym (ap (λ xs. look_bit t xs p) c.round_look-then-is_in_range.ensures)
    ∙ c.damage_between.ensures.alike u t same p out
    ∙ ap (λ xs. look_bit u xs p) c.round_look.ensures
