use Rattle.std.proofs.Common.{rules, SFits, w32, sym, ap, ◌∙◌, ◌∷◌, [], length}
use Rattle.std.specs.Prelude.{nat_le}
use Rattle.std.specs.Option.{is_some}
use Rattle.std.proofs.lemmas.Int.{to_z-of_z}
use Rattle.menu_list.specs.Lists.{menu_index}
use Rattle.tb_geom.specs.declared.refusal.Refusal.TheVariants.{TooLong, TooMany}
use Rattle.menu_list.specs.EditRefusals.{is_long_text}
use Rattle.menu_record.specs.Edits.{is_menu_id}
use Rattle.menu_mgr.proofs.Made.{number_taken}
use Rattle.menu_mgr.proofs.menus.Menus.judge.Goals as goal

pub returns-then-is_some : goal.returns-then-is_some
returns-then-is_some g c =
    let fits : SFits w32 c.args.new.now.menu = search rules in
    let first = simp to_z-of_z at c.find.ensures.first in
    number_taken (is_menu_id c.args.new.now.menu) (menu_index c.args.new.now.menu c.args.self.now.list.menus.items)
    ((is_long_text c.args.new.now.title, TooLong) ∷ (nat_le 16 (length c.args.self.now.list.menus.items), TooMany) ∷ [])
    (ap is_some (sym first) ∙ sym c.is_some.ensures ∙ c.if-is_some.true)
