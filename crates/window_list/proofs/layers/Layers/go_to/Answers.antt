use Rattle.std.proofs.Common.{◌≡◌, true, length, drop, rules, sym, ap, subst, ◌∙◌}
use Rattle.std.specs.List.{All, list_all}
use Rattle.std.proofs.lemmas.List.{take_at}
use Rattle.tb_geom.specs.Points.{minus}
use Rattle.tb_geom.specs.Pixels.{holds}
use Rattle.scan_region.specs.Moves.{StaysInRange}
use Rattle.window_list.specs.Holders.{PlacedLayers, fits_at}
use Rattle.window_list.specs.Owned.{AreOwned, AreMoved, nothing}
use Rattle.window_list.proofs.Moved.{owned_move, covered_move, owned_moved, covered_moved, lie_moved}
use Rattle.window_list.proofs.layers.Layers.go_to.Goals as goal

pub move_all-requires : goal.move_all-requires
move_all-requires c =
    let fit : list_all (fits_at c.args.place) c.self.inside.layers.items ≡ true = subst (λ (s : PlacedLayers). list_all (fits_at c.args.place) s.layers ≡ true) (sym c.self.view_is) c.requires.fit in
    subst (λ rs. All (λ r. StaysInRange r c.local-by.result) rs) (sym c.as_mut_slice.ensures.value)
    (subst (λ d. All (λ r. StaysInRange r d) c.self.inside.owned.items) (sym c.local-by.ensures)
    (owned_move c.self.inside.place c.args.place nothing c.self.inside.layers.items c.self.inside.owned.items c.self.invariant.lie fit c.self.invariant.owned))

pub move_by-requires : goal.move_by-requires
move_by-requires c =
    let fit : list_all (fits_at c.args.place) c.self.inside.layers.items ≡ true = subst (λ (s : PlacedLayers). list_all (fits_at c.args.place) s.layers ≡ true) (sym c.self.view_is) c.requires.fit in
    subst (λ d. StaysInRange c.self.inside.covered d) (sym c.local-by.ensures)
    (covered_move c.self.inside.place c.args.place c.self.inside.layers.items c.self.inside.covered c.self.invariant.lie fit c.self.invariant.covered)

pub invariant_of-self : goal.invariant_of-self
invariant_of-self c =
    let fit : list_all (fits_at c.args.place) c.self.inside.layers.items ≡ true = subst (λ (s : PlacedLayers). list_all (fits_at c.args.place) s.layers ≡ true) (sym c.self.view_is) c.requires.fit in
    let moved : AreMoved (minus c.args.place c.self.inside.place) c.self.inside.owned.items c.move_all.new.regions =
    subst (λ d. AreMoved d c.self.inside.owned.items c.move_all.new.regions) c.local-by.ensures (subst (λ rs. AreMoved c.local-by.result rs c.move_all.new.regions) c.as_mut_slice.ensures.value c.move_all.ensures) in
    let long : length c.move_all.new.regions ≡ c.self.inside.owned.len = search rules in
    record {
      placed = c.requires.placed;
      lie = lie_moved c.self.inside.place c.args.place c.self.inside.layers.items c.self.invariant.lie fit;
      owned = subst (λ rs. AreOwned c.args.place c.self.inside.layers.items rs) (sym (take_at c.move_all.new.regions (drop (length c.move_all.new.regions) c.self.inside.owned.items) c.self.inside.owned.len long))
          (owned_moved c.self.inside.place c.args.place nothing c.self.inside.layers.items c.self.inside.owned.items c.move_all.new.regions c.self.invariant.owned moved);
      many = c.self.invariant.many;
      covered = covered_moved c.self.inside.place c.args.place c.self.inside.layers.items c.self.inside.covered c.move_by.new.region c.self.invariant.covered
          (λ p. c.move_by.ensures p ∙ ap (λ d. holds c.self.inside.covered (minus p d)) c.local-by.ensures);
    }
