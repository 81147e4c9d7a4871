use Rattle.std.proofs.Common.{◌∙◌, rules, SFits, w32}
use Rattle.std.proofs.lemmas.Int.{to_z-of_z}
use Rattle.std.proofs.lemmas.Result.{IfOk-weaker}
use Rattle.def_iface.specs.contracts.taken_control.TakenControlDefined.TheImpl as taken_control
use Rattle.def_iface.specs.contracts.taken_list.TakenListDefined.TheImpl as taken_list
use Rattle.def_iface.specs.contracts.taken_menu.TakenMenuDefined.TheImpl as taken_menu
use Rattle.desk_toolbox.proofs.Begun.{begins}
use Rattle.desk_toolbox.proofs.toolbox.Toolbox.new.Goals as goal

pub returns-in-Ok-clause-begun : goal.returns-in-Ok-clause-begun
returns-in-Ok-clause-begun g c =
    let fits_w : SFits w32 c.args.width = search rules in
    let fits_h : SFits w32 c.args.height = search rules in
    let fits_b : SFits w32 c.args.bar = search rules in
    simp to_z-of_z at c.with_parts.ensures.begun

pub returns-in-Ok-clause-just_begun : goal.returns-in-Ok-clause-just_begun
returns-in-Ok-clause-just_begun g c =
    let fits_w : SFits w32 c.args.width = search rules in
    let fits_h : SFits w32 c.args.height = search rules in
    let fits_b : SFits w32 c.args.bar = search rules in
    let begun = simp to_z-of_z at c.with_parts.ensures.begun in
    begins _ (taken_menu.loan-value g.dyn-3).it (taken_control.loan-value g.dyn-2).it (taken_list.loan-value g.dyn-4).it c.args.width c.args.height c.args.bar _ _ _ c.with_parts.result begun c.with_parts.ensures.idle c.with_parts.ensures.events c.with_parts.ensures.menus
    c.with_parts.ensures.controls c.with_parts.ensures.lists c.with_parts.ensures.texts c.in-Ok.ensures.events c.in-Ok.ensures.menus

pub returns-in-Ok-clause-in_range : goal.returns-in-Ok-clause-in_range
returns-in-Ok-clause-in_range g c =
    let fits_w : SFits w32 c.args.width = search rules in
    let fits_h : SFits w32 c.args.height = search rules in
    let fits_b : SFits w32 c.args.bar = search rules in
    simp to_z-of_z at c.with_parts.ensures.in_range

pub returns-in-Ok-clause-events : goal.returns-in-Ok-clause-events
returns-in-Ok-clause-events g c = IfOk-weaker c.with_parts.result _ _ (λ t events. events ∙ c.in-Ok.ensures.events) c.with_parts.ensures.events

pub returns-in-Ok-clause-refused : goal.returns-in-Ok-clause-refused
returns-in-Ok-clause-refused g c =
    let fits_w : SFits w32 c.args.width = search rules in
    let fits_h : SFits w32 c.args.height = search rules in
    let fits_b : SFits w32 c.args.bar = search rules in
    simp to_z-of_z at c.with_parts.ensures.refused
