use Rattle.std.proofs.Common.{◌≡◌, ◌++◌, [], ap, sym, ◌∙◌, rules, append-nil}
use Rattle.menu_record.specs.Appending.{items_of}
use Rattle.menu_record.proofs.Pieces.{none_left}
use Rattle.menu_record.proofs.items.push_items.Goals as goal

pub returns : goal.returns
returns c =
    let none : items_of c.loop-rest.rest.now ≡ [] = none_left c.loop-rest.rest.now (search rules) in
    sym (ap (λ r. c.loop-rest.items.items ++ r) none ∙ append-nil _) ∙ c.loop-rest.invariant.items
