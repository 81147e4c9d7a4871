use Rattle.menu_record.specs.Edits.{set_enabled, why_not_enabled}
use Rattle.std.proofs.lemmas.Int.{to_z-of_z}
use Rattle.menu_list.proofs.ListLemmas.{answered, done, kept}
use Rattle.menu_list.proofs.list.MenuList.set_enabled.Goals as goal

pub returns-clause-done : goal.returns-clause-done
returns-clause-done g c =
    let fits = c.ranges.item in
    done c.args.self.now.menus.items c.args.at c.index_mut.result.now c.requires c.index_mut.ensures.value c.set_enabled.result
    (set_enabled c.args.item c.args.enabled) c.set_enabled.new.self (simp to_z-of_z at c.set_enabled.ensures.done)

pub returns-clause-answered : goal.returns-clause-answered
returns-clause-answered g c =
    let fits = c.ranges.item in
    answered c.args.self.now.menus.items c.args.at c.index_mut.result.now c.requires c.index_mut.ensures.value c.set_enabled.result
    (why_not_enabled c.args.item) (simp to_z-of_z at c.set_enabled.ensures.answered)

pub returns-clause-kept : goal.returns-clause-kept
returns-clause-kept g c =
    kept c.args.self.now.menus.items c.args.at c.index_mut.result.now c.requires c.index_mut.ensures.value c.set_enabled.result c.set_enabled.new.self c.set_enabled.ensures.kept
