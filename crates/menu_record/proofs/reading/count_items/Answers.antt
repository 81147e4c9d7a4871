use Rattle.std.proofs.Common.{◌≡◌, length, ap, ◌∙◌, arith, rules, []}
use Rattle.std.specs.List.{list_any}
use Rattle.menu_record.specs.Appending.{items_of, is_long}
use Rattle.menu_record.proofs.Pieces.{none_left}
use Rattle.menu_record.proofs.reading.count_items.Goals as goal

pub returns : goal.returns
returns c =
    let none : items_of c.loop-rest.rest.now ≡ [] = none_left c.loop-rest.rest.now (search rules) in
    let long : list_any is_long (items_of c.args.text.now) ≡ list_any is_long (items_of c.loop-rest.rest.now) = c.loop-rest.invariant.long in
    let e : length (items_of c.loop-rest.rest.now) ≡ 0 = ap length none in
    (omega (arith, e, c.loop-rest.invariant.count), long ∙ ap (list_any is_long) none)
