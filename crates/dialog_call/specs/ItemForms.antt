-- Which bytes a new item of a dialog may have, by its kind.
use Rattle.std.specs.Prelude.{ℕ, ℤ, pos, negsuc, ◌+◌, ◌*◌, ◌/◌, ◌==◌, Bool, true, length}
use Rattle.def_iface.specs.declared.size.Size.{Size}
use Rattle.dialog_call.specs.declared.calls.NewItem.{NewItem}
use Rattle.dialog_items.specs.declared.kind.ItemKind.{ItemKind}
use Rattle.dialog_items.specs.declared.kind.ItemKind.TheVariants.{Icon, User}

-- a number, and 0 for one below it
abbrev pub at_least_0 : ℤ → ℕ
at_least_0 (pos n) = n
at_least_0 (negsuc n) = 0

-- how many bytes the image of an icon of this size has: whole bytes for each row
abbrev pub icon_bytes : Size → ℕ
icon_bytes s = at_least_0 s.height * ((at_least_0 s.width + 7) / 8)

-- an icon has those of its image, a user item has none, and any other what it is to have
abbrev pub has_form : NewItem → Bool
has_form n = has_form_as n.kind n
  where
    has_form_as : ItemKind → NewItem → Bool
    has_form_as Icon n = length n.bytes == icon_bytes n.size
    has_form_as User n = length n.bytes == 0
    has_form_as _ n = true
