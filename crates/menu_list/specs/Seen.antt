-- A menu of which the definition is seen as something else.
use Rattle.std.specs.Prelude.{List, map}
use Rattle.menu_list.specs.declared.listed.Listed.{Listed}

-- `meaning` says what a definition is seen as
module _ {B D : Type 0} (meaning : B → D) where
  abbrev pub seen : Listed B → Listed D
  seen l = record { menu = l.menu; inserted = l.inserted; definition = meaning l.definition }

  abbrev pub all_seen : List (Listed B) → List (Listed D)
  all_seen menus = map seen menus
