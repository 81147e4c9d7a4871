use Rattle.std.proofs.Common.{◌≡◌, ◌∙◌, ap, nat_abs, rules, subst, SFits, w32}
use Rattle.std.proofs.lemmas.Int.{to_z-of_z}
use Rattle.tb_geom.specs.declared.rect.Rect.{Rect}
use Rattle.bit_map.specs.Bits.{bounds_of}
use Rattle.desk_call.specs.declared.activity.Activity.{Activity}
use Rattle.desk_call.specs.declared.activity.Activity.TheVariants.{Updating}
use Rattle.striped_layers.proofs.updating.updates_for.Goals as goal

abbrev UpdatesNone : Activity → Type 0
UpdatesNone (Updating s) = ⊥
UpdatesNone _ = Unit {0}

pub returns : goal.returns
returns g c =
    let fits_r : SFits w32 c.bounds-sides.result.right = search rules in
    let fits_b : SFits w32 c.bounds-sides.result.bottom = search rules in
    let made = simp to_z-of_z at c.in_ok-new.ensures.sides in
    let sides = c.bounds-sides.ensures.sides ∙ ap bounds_of c.screen.ensures in
    record {
      width = ap nat_abs (made.0 ∙ ap (λ (r : Rect). r.right) sides);
      height = ap nat_abs (made.1 ∙ ap (λ (r : Rect). r.bottom) sides);
      choices = λ s e. absurd (subst UpdatesNone e tt);
    }
