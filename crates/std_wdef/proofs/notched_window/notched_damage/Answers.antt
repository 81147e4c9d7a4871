use Rattle.std.proofs.Common.{ap, sym, ◌∙◌, refl}
use Rattle.looks.specs.Marks.{look_bit}
use Rattle.std_wdef.proofs.notched_window.notched_damage.Goals as goal

pub returns-then-is_in_range-clause-alike : goal.returns-then-is_in_range-clause-alike
returns-then-is_in_range-clause-alike c = λ t p inside out.
    sym (ap (λ xs. look_bit t xs p) c.notched_look-then-is_in_range.ensures)
    ∙ c.damage_between.ensures.alike t t (λ e. refl) p out
    ∙ ap (λ xs. look_bit t xs p) c.notched_look.ensures
