use Rattle.std.proofs.Common.{◌++◌, ◌≡◌, None, length, sym, subst}
use Rattle.std.specs.Prelude.{OnOk, IfErr, IfSome}
use Rattle.menu_record.specs.Appending.{items_of, why_not_appended}
use Rattle.menu_record.specs.Reads.{IsNotAppended}
use Rattle.menu_list.proofs.ListLemmas.{read_there, why_there, done_items, kept_items}
use Rattle.menu_list.proofs.list.MenuList.append.Goals as goal

pub returns-clause-appended : goal.returns-clause-appended
returns-clause-appended g c =
    done_items c.args.self.now.menus.items c.args.at c.index_mut.result.now c.requires c.index_mut.ensures.value c.append.result
    (λ items. items ++ items_of c.args.text.now) c.append.new.self c.append.ensures.appended

pub returns-clause-allowed : goal.returns-clause-allowed
returns-clause-allowed g c =
    subst (λ why. OnOk c.append.result (why ≡ None))
    (why_there (λ m. why_not_appended c.args.text.now (length m.items)) c.args.self.now.menus.items c.args.at c.index_mut.result.now c.requires c.index_mut.ensures.value)
    c.append.ensures.allowed

pub returns-clause-refused : goal.returns-clause-refused
returns-clause-refused g c =
    subst (λ o. IfErr c.append.result (λ e. IfSome o (λ l. IsNotAppended c.args.text.now (length l.menu.items) e)))
    (sym (read_there c.args.self.now.menus.items c.args.at c.index_mut.result.now c.requires c.index_mut.ensures.value))
    c.append.ensures.refused

pub returns-clause-kept : goal.returns-clause-kept
returns-clause-kept g c =
    kept_items c.args.self.now.menus.items c.args.at c.index_mut.result.now c.requires c.index_mut.ensures.value c.append.result c.append.new.self c.append.ensures.kept
