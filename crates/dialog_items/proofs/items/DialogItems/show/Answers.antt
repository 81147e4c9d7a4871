use Rattle.std.proofs.Common.{◌≡◌, ◌-◌, get_or, ap, ◌∙◌}
use Rattle.dialog_items.specs.Items.{ItemList, with_shown}
use Rattle.dialog_items.proofs.ItemLemmas.{read-changed}
use Rattle.dialog_items.proofs.items.DialogItems.show.Goals as goal

pub returns : goal.returns
returns c =
    let x = c.index-item.result.now in
    let read : x ≡ get_or c.args.self.now.items (c.args.number - 1) x = c.index-item.ensures ∙ ap (λ (s : ItemList). get_or s.items (c.args.number - 1) x) c.self.view_is in
    c.put.ensures ∙ ap (λ xs. record c.args.self.now { items = xs }) (read-changed (with_shown c.args.shown) c.args.self.now.items c.args.number x c.requires.some read)
