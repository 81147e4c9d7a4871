-- A control with one field set.
use Rattle.std.specs.Prelude.{ℕ, Bool, List}
use Rattle.tb_geom.specs.declared.point.Point.{Point}
use Rattle.control_values.specs.Settings.{Setting}
use Rattle.def_iface.specs.declared.size.Size.{Size}
use Rattle.window_items.specs.declared.item.Item.{Item}
use Rattle.window_items.specs.Items.{with_kept}
use Rattle.control_mgr.specs.declared.control.Control.{Control}

module _ {D : Type 0} where
  -- the control elsewhere in its window
  abbrev pub with_place : Point → Item (Control D) → Item (Control D)
  with_place place c = with_kept (λ k. record k { place = place }) c

  -- the control of this size
  abbrev pub with_size : Size → Item (Control D) → Item (Control D)
  with_size size c = with_kept (λ k. record k { size = size }) c

  -- the control, shown or hidden
  abbrev pub with_shown : Bool → Item (Control D) → Item (Control D)
  with_shown shown c = with_kept (λ k. record k { shown = shown }) c

  -- the control with this setting
  abbrev pub with_values : Setting → Item (Control D) → Item (Control D)
  with_values values c = with_kept (λ k. record k { values = values }) c

  -- the control, highlighted so
  abbrev pub with_highlight : ℕ → Item (Control D) → Item (Control D)
  with_highlight highlight c = with_kept (λ k. record k { highlight = highlight }) c

  -- the control with this title
  abbrev pub with_title : List ℕ → Item (Control D) → Item (Control D)
  with_title title c = with_kept (λ k. record k { title = title }) c
