use Rattle.std.proofs.Common.{◌≡◌, None, get_or, rules, sym, ap, subst, ◌∙◌}
use Rattle.std.specs.List.{remove}
use Rattle.tb_geom.specs.Points.{minus}
use Rattle.tb_geom.specs.Pixels.{holds}
use Rattle.window_list.specs.LayerChanges.{is_gained}
use Rattle.window_list.proofs.Gains.{remove_gains}
use Rattle.window_list.proofs.layers.Layers.without.Goals as goal

pub returns-clause-gained : goal.returns-clause-gained
returns-clause-gained c p =
    let new_is : c.in_ok-layers-2.layers.layers ≡ remove c.args.self.now.layers c.args.at = search rules in
    let gone = c.remove-gone.result in
    let read : gone ≡ get_or c.args.self.now.layers c.args.at gone = search rules in
    subst (λ new. holds c.in_ok-gained.gained p ≡ is_gained None c.args.self.now.layers new (minus p c.args.self.now.place)) (sym new_is)
    (ap (λ r. holds r p) c.in_ok-gained.ensures ∙ c.owned.ensures gone read p
    ∙ remove_gains c.args.self.now.layers c.args.at gone (minus p c.args.self.now.place) c.requires.apart c.requires.at read)
