use Rattle.std.proofs.Common.{◌≡◌, ◌<◌, length, get_or, rules, sym, ap, subst, ◌∙◌}
use Rattle.std.specs.List.{All}
use Rattle.tb_geom.specs.Points.{minus}
use Rattle.tb_geom.specs.Pixels.{holds}
use Rattle.window_list.specs.Holders.{PlacedLayers, ArePartsApart, IsLayerAt, belongs_to}
use Rattle.window_list.specs.LayerChanges.{with_shape, reshaped}
use Rattle.window_list.proofs.Parts.{reshaped_length, reshaped_apart}
use Rattle.window_list.proofs.Gains.{reshaped_all, reshaped_gained}
use Rattle.window_list.proofs.layers.Layers.with_shape.Goals as goal

pub made-requires-clause-lie : goal.made-requires-clause-lie
made-requires-clause-lie c =
    let new_is : c.in_ok-layers.layers.items ≡ reshaped c.args.shape c.args.at c.self.inside.layers.items = search rules in
    subst (λ xs. All (IsLayerAt c.self.inside.place) xs) (sym new_is)
    (reshaped_all (IsLayerAt c.self.inside.place) c.args.shape c.args.at c.self.inside.layers.items c.self.invariant.lie
    (subst (λ (s : PlacedLayers). c.args.at < length s.layers) (sym c.self.view_is) c.requires.at)
    (λ l read. subst (λ (s : PlacedLayers). IsLayerAt s.place (with_shape c.args.shape l)) (sym c.self.view_is)
    (c.requires.lies l (subst (λ (s : PlacedLayers). l ≡ get_or s.layers c.args.at l) c.self.view_is read))))

pub owned-requires-2-clause-within : goal.owned-requires-2-clause-within
owned-requires-2-clause-within c =
    let new_is : c.in_ok-layers-2.layers.layers ≡ reshaped c.args.shape c.args.at c.args.self.now.layers = search rules in
    subst (λ n. c.args.at < n) (sym (ap length new_is ∙ reshaped_length c.args.shape c.args.at c.args.self.now.layers)) c.requires.at

pub owned-requires-2-clause-apart : goal.owned-requires-2-clause-apart
owned-requires-2-clause-apart c =
    let new_is : c.in_ok-layers-2.layers.layers ≡ reshaped c.args.shape c.args.at c.args.self.now.layers = search rules in
    subst (λ xs. ArePartsApart xs) (sym new_is) (reshaped_apart c.args.shape c.args.at c.args.self.now.layers c.requires.apart)

pub returns-clause-gained : goal.returns-clause-gained
returns-clause-gained c l read p =
    let new_is : c.in_ok-layers-2.layers.layers ≡ reshaped c.args.shape c.args.at c.args.self.now.layers = search rules in
    let stays : c.in_ok-layers-2.layers.place ≡ c.args.self.now.place = search rules in
    c.in_ok-gained.ensures p
    ∙ reshaped_gained c.args.shape c.args.at c.args.self.now.layers c.in_ok-layers-2.layers.layers l (minus p c.args.self.now.place) (holds c.owned.result.now p) (holds c.owned-2.result.now p)
    c.requires.at read new_is (c.owned.ensures l read p)
    (λ k here. c.owned-2.ensures k here p ∙ ap (λ place. belongs_to k.part c.in_ok-layers-2.layers.layers (minus p place)) stays)
