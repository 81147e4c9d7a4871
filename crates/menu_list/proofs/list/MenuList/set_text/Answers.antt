use Rattle.menu_record.specs.Edits.{edit_item, with_text, why_no_text}
use Rattle.std.proofs.lemmas.Int.{to_z-of_z}
use Rattle.menu_list.proofs.ListLemmas.{answered, done_items, kept_items}
use Rattle.menu_list.proofs.list.MenuList.set_text.Goals as goal

pub returns-clause-done : goal.returns-clause-done
returns-clause-done g c =
    let fits = c.ranges.item in
    done_items c.args.self.now.menus.items c.args.at c.index_mut.result.now c.requires c.index_mut.ensures.value c.set_text.result
    (λ items. edit_item (with_text c.args.text.now) c.args.item items) c.set_text.new.self (simp to_z-of_z at c.set_text.ensures.done)

pub returns-clause-answered : goal.returns-clause-answered
returns-clause-answered g c =
    let fits = c.ranges.item in
    answered c.args.self.now.menus.items c.args.at c.index_mut.result.now c.requires c.index_mut.ensures.value c.set_text.result
    (λ m. why_no_text c.args.item c.args.text.now m.items) (simp to_z-of_z at c.set_text.ensures.answered)

pub returns-clause-kept : goal.returns-clause-kept
returns-clause-kept g c =
    kept_items c.args.self.now.menus.items c.args.at c.index_mut.result.now c.requires c.index_mut.ensures.value c.set_text.result c.set_text.new.self c.set_text.ensures.kept
