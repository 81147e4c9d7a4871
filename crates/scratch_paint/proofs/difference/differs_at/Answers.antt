use Rattle.std.proofs.Common.{◌≡◌, true, pos, ap, ◌∙◌}
use Rattle.bit_map.specs.Bits.{on_map}
use Rattle.def_iface.specs.contracts.taken_window.TakenWindowDefined.TheImpl as taken
use Rattle.def_iface.specs.contracts.taken_control.TakenControlDefined.TheImpl as taken_control
use Rattle.def_iface.specs.contracts.taken_list.TakenListDefined.TheImpl as taken_list
use Rattle.def_iface.specs.contracts.taken_menu.TakenMenuDefined.TheImpl as taken_menu
use Rattle.vis_update.specs.Areas.{stale_in}
use Rattle.desk_toolbox.specs.WholeToolbox.{toolbox_state}
use Rattle.desk_toolbox.specs.Boxed.{no_slots}
use Rattle.scratch_paint.proofs.DifferenceLemmas.{alike_if, differs_if, on_both}
use Rattle.scratch_paint.proofs.difference.differs_at.Goals as goal

pub get-requires : goal.get-requires
get-requires g c =
    on_both _ c.args.painted.now c.screen.result.now c.requires.large (ap pos c.screen.ensures.width) (ap pos c.screen.ensures.height) c.args.point c.requires.point

pub returns-then-get : goal.returns-then-get
returns-then-get g c =
    let there : on_map c.screen.result.now c.args.point ≡ true =
    on_both _ c.args.painted.now c.screen.result.now c.requires.large (ap pos c.screen.ensures.width) (ap pos c.screen.ensures.height) c.args.point c.requires.point in
    differs_if (toolbox_state (taken.loan-value g.dyn-1).it (taken_menu.loan-value g.dyn-3).it (taken_control.loan-value g.dyn-2).it (taken_list.loan-value g.dyn-4).it c.args.toolbox.now no_slots) c.args.painted.now c.args.point
    c.requires.large c.requires.point c.get.result c.get-2.result c.is_stale.result
    (c.get.ensures ∙ c.screen.ensures.shown no_slots c.args.point there) c.get-2.ensures c.if-get.true
    (c.is_stale.ensures ∙ ap (λ w. stale_in w.areas.items c.args.point) c.windows.ensures)

pub returns-else-get : goal.returns-else-get
returns-else-get g c =
    let there : on_map c.screen.result.now c.args.point ≡ true =
    on_both _ c.args.painted.now c.screen.result.now c.requires.large (ap pos c.screen.ensures.width) (ap pos c.screen.ensures.height) c.args.point c.requires.point in
    alike_if (toolbox_state (taken.loan-value g.dyn-1).it (taken_menu.loan-value g.dyn-3).it (taken_control.loan-value g.dyn-2).it (taken_list.loan-value g.dyn-4).it c.args.toolbox.now no_slots) c.args.painted.now c.args.point
    c.requires.large c.requires.point c.get.result c.get-2.result
    (c.get.ensures ∙ c.screen.ensures.shown no_slots c.args.point there) c.get-2.ensures c.if-get.false
