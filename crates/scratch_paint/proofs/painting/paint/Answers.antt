use Rattle.std.proofs.Common.{SFits, w32, rules}
use Rattle.std.proofs.lemmas.Int.{to_z-of_z}
use Rattle.def_iface.specs.contracts.taken_window.TakenWindowDefined.TheImpl as taken
use Rattle.def_iface.specs.contracts.taken_control.TakenControlDefined.TheImpl as taken_control
use Rattle.def_iface.specs.contracts.taken_list.TakenListDefined.TheImpl as taken_list
use Rattle.def_iface.specs.contracts.taken_menu.TakenMenuDefined.TheImpl as taken_menu
use Rattle.scratch_paint.proofs.FrontLemmas.{screen_painted}
use Rattle.scratch_paint.proofs.painting.paint.Goals as goal

pub paint_base-requires-clause-sides : goal.paint_base-requires-clause-sides
paint_base-requires-clause-sides g c = rw c.windows-windows.ensures c.requires.sides

pub paint_base-requires-clause-settled : goal.paint_base-requires-clause-settled
paint_base-requires-clause-settled g c = rw c.windows-windows.ensures c.requires.windows

pub paint_base-requires-clause-layers : goal.paint_base-requires-clause-layers
paint_base-requires-clause-layers g c = rw (c.contents.ensures.0, c.contents.ensures.1.0) (c.requires.controls, c.requires.lists)

pub paint_front-requires-clause-live : goal.paint_front-requires-clause-live
paint_front-requires-clause-live g c = rw c.menus.ensures c.requires.menus

pub paint_front-requires-clause-placed : goal.paint_front-requires-clause-placed
paint_front-requires-clause-placed g c = rw c.activity.ensures c.requires.placed

pub paint_front-requires-clause-outline : goal.paint_front-requires-clause-outline
paint_front-requires-clause-outline g c = rw c.activity.ensures c.requires.front.kept

pub returns : goal.returns
returns g c =
    let fits : SFits w32 c.parts-parts.result.bar = search rules in
    screen_painted (taken.loan-value g.dyn-1).it (taken_menu.loan-value g.dyn-3).it (taken_control.loan-value g.dyn-2).it (taken_list.loan-value g.dyn-4).it c.args.toolbox.now c.windows-windows.result.now c.menus.result.now c.activity.result _ c.parts-parts.result.bar _ c.paint_front.new.map
    c.windows-windows.ensures c.menus.ensures c.activity.ensures c.parts-parts.ensures.font c.parts-parts.ensures.bar (rw (c.contents.ensures.0, c.contents.ensures.1.0, c.contents.ensures.1.1) at c.in_ok-image.ensures) (simp to_z-of_z at c.paint_front.ensures)
