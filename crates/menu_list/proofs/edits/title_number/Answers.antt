use Rattle.std.proofs.Common.{rules, SFits, w32, ℕ, Bool, true, false, if◌then◌else◌, ◌≡◌, Some, None, refl, sym, ap, ◌∙◌}
use Rattle.std.proofs.lemmas.Int.{to_z-of_z}
use Rattle.std.specs.Bool.{then_some}
use Rattle.std.specs.Option.{option_and_then}
use Rattle.menu_list.proofs.ListLemmas.{read_there}
use Rattle.menu_list.specs.MenuEdits.{title_number}
use Rattle.menu_list.proofs.Indices.{with_found, with_none}
use Rattle.menu_list.proofs.edits.title_number.Goals as goal

by_inserted : (b : Bool) (n : ℕ) → then_some b n ≡ (if b then Some n else None)
by_inserted true n = refl
by_inserted false n = refl

pub returns-in-Some : goal.returns-in-Some
returns-in-Some g c =
    let fits : SFits w32 c.args.menu = search rules in
    let first = simp to_z-of_z at c.in-Some.ensures.first in
    let xs = c.args.list.now.menus.items in
    let there = with_found c.args.menu xs c.in-Some.at (sym first) ∙ read_there xs c.in-Some.at c.index-listed.result.now c.in-Some.ensures.within c.index-listed.ensures in
    c.then_some.ensures ∙ by_inserted c.index-listed.result.now.inserted c.index-listed.result.now.menu.id ∙ sym (ap (option_and_then title_number) there)

pub returns-in-None : goal.returns-in-None
returns-in-None g c =
    let fits : SFits w32 c.args.menu = search rules in
    let first = simp to_z-of_z at c.in-None.ensures.first in
    let none = with_none c.args.menu c.args.list.now.menus.items (sym first) in sym (ap (option_and_then title_number) none)
