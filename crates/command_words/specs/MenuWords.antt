-- The words of the commands for menus.
use Rattle.std.specs.Prelude.{ℕ, List, [], ◌∷◌}
use Rattle.desk_call.specs.declared.menu.ItemOfMenu.{ItemOfMenu}
use Rattle.desk_call.specs.declared.menu.MenuCall.{MenuCall}
use Rattle.desk_call.specs.declared.menu.MenuCall.TheVariants as calls
use Rattle.line_words.specs.Shapes.{Shape, says, never, number, flag, text, point, mapped}
use Rattle.command_words.specs.declared.menus.MenuVerb.{MenuVerb}
use Rattle.command_words.specs.declared.menus.MenuVerb.TheVariants as verbs

-- ID "title"
abbrev pub new_shape : Shape MenuCall
new_shape = number (λ menu. text (λ title. says (calls.New (record { menu = menu; title = title }))))

-- ID "items"
abbrev pub append_shape : Shape MenuCall
append_shape = number (λ menu. text (λ items. says (calls.Append (record { menu = menu; items = items }))))

-- ID item "text"
abbrev pub set_item_shape : Shape MenuCall
set_item_shape = number (λ menu. number (λ item. text (λ t. says (calls.SetItem (record { menu = menu; item = item; text = t })))))

-- ID BEFORE
abbrev pub insert_shape : Shape MenuCall
insert_shape = number (λ menu. number (λ before. says (calls.Insert (record { menu = menu; before = before }))))

-- ID item
abbrev pub item_shape : Shape ItemOfMenu
item_shape = number (λ menu. number (λ item. says (record { menu = menu; item = item })))

-- ID item FLAG
abbrev pub check_shape : Shape MenuCall
check_shape = number (λ menu. number (λ item. flag (λ checked. says (calls.Check (record { menu = menu; item = item; checked = checked })))))

-- a key by its character: no other count of them than one is a key
abbrev pub one_key : List ℕ → Shape MenuCall
one_key [] = never
one_key (character ∷ []) = says (calls.Key character)
one_key (character ∷ next ∷ others) = never

-- "c"
abbrev pub key_shape : Shape MenuCall
key_shape = text one_key

-- the words that follow a first word, and what they ask
unfoldable pub menu_shape : MenuVerb → Shape MenuCall
menu_shape verbs.New = new_shape
menu_shape verbs.Append = append_shape
menu_shape verbs.SetItem = set_item_shape
menu_shape verbs.Insert = insert_shape
menu_shape verbs.Delete = number (λ menu. says (calls.Delete menu))
menu_shape verbs.Dispose = number (λ menu. says (calls.Dispose menu))
menu_shape verbs.Enable = mapped calls.Enable item_shape
menu_shape verbs.Disable = mapped calls.Disable item_shape
menu_shape verbs.Check = check_shape
menu_shape verbs.Down = point (λ place. says (calls.Down place))
menu_shape verbs.Move = point (λ place. says (calls.Move place))
menu_shape verbs.Up = point (λ place. says (calls.Up place))
menu_shape verbs.Key = key_shape
menu_shape verbs.Hilite = number (λ menu. says (calls.Hilite menu))
