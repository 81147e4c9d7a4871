use Rattle.std.proofs.Common.{refl}
use Rattle.looks.specs.Letters.{lettering}
use Rattle.own_window.specs.Banners.{word}
use Rattle.own_window.proofs.banner.damage_of.Goals as goal

pub returns-then-is_in_range-clause-alike : goal.returns-then-is_in_range-clause-alike
returns-then-is_in_range-clause-alike c = λ font p plane out.
    let drawn = rw (c.look_of.ensures, c.look_of-then-is_in_range.ensures) at c.damage_between.ensures.alike in
    drawn (lettering font word) (lettering font word) (λ same. refl) p out
