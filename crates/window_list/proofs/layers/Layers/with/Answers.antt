use Rattle.std.proofs.Common.{◌≡◌, Some, rules, sym, subst, ◌∙◌}
use Rattle.std.specs.List.{All, insert}
use Rattle.tb_geom.specs.Points.{minus}
use Rattle.tb_geom.specs.Pixels.{holds}
use Rattle.window_list.specs.Holders.{PlacedLayers, IsLayerAt}
use Rattle.window_list.specs.LayerChanges.{is_gained}
use Rattle.window_list.proofs.Gains.{insert_all, insert_gains}
use Rattle.window_list.proofs.layers.Layers.with.Goals as goal

pub made-requires-clause-lie : goal.made-requires-clause-lie
made-requires-clause-lie c =
    let new_is : c.insert.new.self.items ≡ insert c.self.inside.layers.items c.args.at c.args.layer = search rules in
    subst (λ xs. All (IsLayerAt c.self.inside.place) xs) (sym new_is)
    (insert_all (IsLayerAt c.self.inside.place) c.self.inside.layers.items c.args.at c.args.layer c.self.invariant.lie
    (subst (λ (s : PlacedLayers). IsLayerAt s.place c.args.layer) (sym c.self.view_is) c.requires.lies))

pub returns-clause-gained : goal.returns-clause-gained
returns-clause-gained c p =
    let new_is : c.in_ok-layers-2.layers.layers ≡ insert c.args.self.now.layers c.args.at c.args.layer = search rules in
    subst (λ new. holds c.empty-gained.result p ≡ is_gained (Some c.args.layer.part) c.args.self.now.layers new (minus p c.args.self.now.place)) (sym new_is)
    (c.empty-gained.ensures p ∙ sym (insert_gains c.args.self.now.layers c.args.at c.args.layer (minus p c.args.self.now.place)))
