use Rattle.std.proofs.Common.{rules}
use Rattle.menu_record.specs.Edits.{with_enabled}
use Rattle.menu_record.proofs.Edits.{item_is_edited}
use Rattle.menu_record.proofs.items.Items.set_enabled.Goals as goal

pub returns-clause-done : goal.returns-clause-done
returns-clause-done c = item_is_edited (with_enabled c.args.enabled) c.self.inside.items.items c.args.self.now c.in_ok-place.place c.args.number c.index_mut.result.now (search rules) (search rules) c.index_mut.ensures.value
