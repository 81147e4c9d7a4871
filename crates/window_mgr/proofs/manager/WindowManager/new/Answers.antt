use Rattle.std.proofs.Common.{refl, rules, SFits, w32}
use Rattle.std.proofs.lemmas.Int.{to_z-of_z}
use Rattle.window_mgr.proofs.EmptyLemmas.{is_empty_desk}
use Rattle.window_mgr.proofs.manager.WindowManager.new.Goals as goal

pub returns-in-Ok-clause-begun : goal.returns-in-Ok-clause-begun
returns-in-Ok-clause-begun g c slots full =
    let fits_w : SFits w32 c.args.width = search rules in
    let fits_h : SFits w32 c.args.height = search rules in
    let fits_b : SFits w32 c.args.bar = search rules in
    let in_range = simp to_z-of_z at c.in-Ok.ensures.in_range in
    let painted = simp to_z-of_z at c.in-Ok.ensures.painted in
    simp to_z-of_z (is_empty_desk _ c.args.width c.args.height c.args.bar c.args.font _ (record {
      screen = in_range;
      ground = painted;
      rows = λ i. record { rows = c.args.bar; titles = c.new-titles.ensures i };
      texts = refl;
      windows = c.requires.none;
      areas = c.new.ensures.items;
      active = c.requires.active;
      next = c.requires.first;
    }) slots full)

pub returns-in-Ok-clause-in_range : goal.returns-in-Ok-clause-in_range
returns-in-Ok-clause-in_range g c =
    let fits_w : SFits w32 c.args.width = search rules in
    let fits_h : SFits w32 c.args.height = search rules in
    let fits_b : SFits w32 c.args.bar = search rules in
    simp to_z-of_z at c.in-Ok.ensures.in_range
