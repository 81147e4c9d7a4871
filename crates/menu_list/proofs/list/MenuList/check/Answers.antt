use Rattle.menu_record.specs.Edits.{edit_item, with_check, why_no_item}
use Rattle.std.proofs.lemmas.Int.{to_z-of_z}
use Rattle.menu_list.proofs.ListLemmas.{answered, done_items, kept_items}
use Rattle.menu_list.proofs.list.MenuList.check.Goals as goal

pub returns-clause-done : goal.returns-clause-done
returns-clause-done g c =
    let fits = c.ranges.item in
    done_items c.args.self.now.menus.items c.args.at c.index_mut.result.now c.requires c.index_mut.ensures.value c.check.result
    (λ items. edit_item (with_check c.args.checked) c.args.item items) c.check.new.self (simp to_z-of_z at c.check.ensures.done)

pub returns-clause-answered : goal.returns-clause-answered
returns-clause-answered g c =
    let fits = c.ranges.item in
    answered c.args.self.now.menus.items c.args.at c.index_mut.result.now c.requires c.index_mut.ensures.value c.check.result
    (λ m. why_no_item c.args.item m.items) (simp to_z-of_z at c.check.ensures.answered)

pub returns-clause-kept : goal.returns-clause-kept
returns-clause-kept g c =
    kept_items c.args.self.now.menus.items c.args.at c.index_mut.result.now c.requires c.index_mut.ensures.value c.check.result c.check.new.self c.check.ensures.kept
