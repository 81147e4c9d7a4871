-- The line of what is answered about menus.
use Rattle.std.specs.Prelude.{ℕ, List, ◌++◌, Option, None, Some, codes, decimal}
use Rattle.desk_call.specs.declared.menu.Choice.{Choice}
use Rattle.desk_call.specs.declared.menu.MenuReply.{MenuReply}
use Rattle.desk_call.specs.declared.menu.MenuReply.TheVariants.{Done, Pulled, Item, Chosen}
use Rattle.line_words.specs.Replies.{done_text, number_text, number_or_none}

-- an item: its menu, and its number there
abbrev pub item_text : Choice → List ℕ
item_text choice = codes "ok " ++ (decimal choice.menu ++ (codes " " ++ (decimal choice.item ++ codes "\n")))

-- what was chosen, and nothing by 0 0
abbrev pub choice_text : Option Choice → List ℕ
choice_text None = codes "ok 0 0\n"
choice_text (Some choice) = item_text choice

-- what was answered
abbrev pub menu_reply_text : MenuReply → List ℕ
menu_reply_text Done = done_text
menu_reply_text (Pulled menu) = number_text (number_or_none menu)
menu_reply_text (Item item) = number_text (number_or_none item)
menu_reply_text (Chosen choice) = choice_text choice
