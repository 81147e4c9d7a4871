-- Other titles in the menu bar.
use Rattle.std.specs.Prelude.{◌≡◌, List}
use Rattle.desk_layers.specs.Change.{no_change, IsChanged}
use Rattle.desk_ground.specs.declared.titles.BarTitle.{BarTitle}
use Rattle.window_mgr.specs.FullDesk.{FullState, layered_state}

-- the menu bar has these titles and shows them; no other pixel changed, and what is to be redrawn is as it was
pub record IsBarShown (titles : List BarTitle) (before after : FullState) : Type 0 where
  pub desk : after.desk ≡ record before.desk { bar = record before.desk.bar { titles = titles } }
  pub pixels : IsChanged no_change (layered_state before) (layered_state after)
