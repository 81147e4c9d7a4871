use Rattle.std.proofs.Common.{SFits, w32, rules}
use Rattle.std.proofs.lemmas.Int.{to_z-of_z}
use Rattle.def_iface.specs.contracts.taken_menu.TakenMenuDefined.TheImpl as taken_menu
use Rattle.menu_mgr.specs.WholeMenus.{menus_of}
use Rattle.scratch_paint.proofs.FrontLemmas.{drag_painted, growth_painted}
use Rattle.scratch_paint.proofs.painting.paint_front.Goals as goal

pub returns-in-Dragging : goal.returns-in-Dragging
returns-in-Dragging g c =
    let fits : SFits w32 c.args.bar = search rules in
    drag_painted c.args.font.now c.args.bar c.in-Dragging.dragged (menus_of (taken_menu.loan-value g.dyn-1).it c.args.menus.now.list.menus.items) c.args.activity
    c.args.map.now c.draw_outline.new.map c.in-Dragging.is (simp to_z-of_z at c.draw_outline.ensures)

pub returns-in-Growing : goal.returns-in-Growing
returns-in-Growing g c =
    let fits : SFits w32 c.args.bar = search rules in
    growth_painted c.args.font.now c.args.bar c.in-Growing.grown (menus_of (taken_menu.loan-value g.dyn-1).it c.args.menus.now.list.menus.items) c.args.activity
    c.args.map.now c.draw_outline-in-Growing.new.map c.in-Growing.is (simp to_z-of_z at c.draw_outline-in-Growing.ensures)
