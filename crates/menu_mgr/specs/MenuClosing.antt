-- What the end of a desk does to the stock of menus.
use Rattle.std.specs.Prelude.{List}
use Rattle.def_iface.specs.MenuMeaning.{MenuDefinition, SameMenuLook}
use Rattle.def_iface.specs.Closing as closing
use Rattle.menu_mgr.specs.MenuDesks.{MenuRecord, MenuSlot}

-- the menu's slot is there, with its definition, which is closed
abbrev pub IsMenuClosedAt : List MenuSlot → MenuRecord → Type 0
IsMenuClosedAt = closing.IsClosedAt (λ (d : MenuDefinition). d.stage) SameMenuLook (λ (l : MenuRecord). l.definition)

-- the desk's menus, which are these, were disposed of: every slot has a definition that no desk uses
abbrev pub AreMenusClosed : List MenuRecord → List MenuSlot → List MenuSlot → Type 0
AreMenusClosed = closing.AreAllClosed (λ (d : MenuDefinition). d.stage) SameMenuLook (λ (l : MenuRecord). l.definition)
