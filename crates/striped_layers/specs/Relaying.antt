-- Other layers of a window, which it may have.
use Rattle.std.specs.Prelude.{◌≡◌, ◌<◌, length, Option, IfSome}
use Rattle.desk_layers.specs.declared.part.Part.{Part}
use Rattle.window_list.specs.Holders.{PlacedLayers, ArePartsApart}
use Rattle.striped_layers.specs.declared.relaying.Relaying.{Relaying}
use Rattle.vis_update.specs.Relayings.{IsGained}
use Rattle.window_mgr.specs.Relayered.{IsPartAt}

-- new layers where the old ones were, and what they gain
pub record IsRelaying (old : PlacedLayers) (r : Relaying) : Type 0 where
  pub place : r.relaid.layers.place ≡ old.place
  pub apart : ArePartsApart r.relaid.layers.layers
  pub afresh : IfSome r.afresh (λ i. i < length r.relaid.layers.layers)
  pub gained : (part : Option Part) → IsPartAt r.relaid.layers.layers r.afresh part
      → IsGained old.place part old.layers r.relaid.layers.layers r.relaid.gained
