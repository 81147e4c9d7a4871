use Rattle.std.proofs.Common.{rules, ap, ◌∙◌}
use Rattle.menu_record.specs.Edits.{with_text, edit_item}
use Rattle.menu_record.proofs.Edits.{item_is_edited}
use Rattle.menu_record.proofs.items.Items.set_text.Goals as goal

pub returns-clause-done : goal.returns-clause-done
returns-clause-done c =
    item_is_edited (with_text c.in_ok-text.text) c.self.inside.items.items c.args.self.now c.in_ok-place.place c.args.number c.index_mut.result.now (search rules) (search rules) c.index_mut.ensures.value
    ∙ ap (λ t. edit_item (with_text t) c.args.number c.args.self.now) c.in_ok-text.ensures.0
