use Rattle.std.proofs.Common.{◌≡◌, ◌<◌, length, get_or, sym, subst}
use Rattle.tb_geom.specs.Points.{minus}
use Rattle.tb_geom.specs.Pixels.{holds}
use Rattle.window_list.specs.Holders.{PlacedLayers, ArePartsApart, belongs_to}
use Rattle.window_list.proofs.Owned.{owned_at}
use Rattle.window_list.proofs.layers.Layers.owned.Goals as goal

pub returns : goal.returns
returns c l read p =
    let back = sym c.self.view_is in
    subst (λ (s : PlacedLayers). holds c.index.result.now p ≡ belongs_to l.part s.layers (minus p s.place)) c.self.view_is
    (owned_at c.self.inside.place c.self.inside.layers.items c.self.inside.owned.items c.args.at l c.index.result.now c.self.invariant.owned
    (subst (λ (s : PlacedLayers). ArePartsApart s.layers) back c.requires.apart)
    (subst (λ (s : PlacedLayers). c.args.at < length s.layers) back c.requires.within)
    (subst (λ (s : PlacedLayers). l ≡ get_or s.layers c.args.at l) back read)
    c.index.ensures p)
