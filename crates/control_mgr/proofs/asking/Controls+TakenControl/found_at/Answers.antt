use Rattle.std.proofs.Common.{[], sym, ap, ◌∙◌, subst, ◌≡◌, None}
use Rattle.std.specs.Prelude.{slice_index_or}
use Rattle.tb_geom.specs.Pixels.{holds}
use Rattle.def_iface.specs.contracts.taken_window.TakenWindowDefined.TheImpl as window
use Rattle.def_iface.specs.contracts.taken_control.TakenControlDefined.TheImpl as control
use Rattle.window_mgr.specs.Edits.{IsWindowAt}
use Rattle.window_mgr.specs.Records.{desk_of}
use Rattle.control_mgr.specs.ControlSteps.{found_from}
use Rattle.control_mgr.specs.WholeControls.{records_of}
use Rattle.control_mgr.proofs.Finds.{area_low, control_found, missing_control, no_control_found, nothing_found, of_window, settled_at, window_placed}
use Rattle.control_mgr.proofs.asking.Controls+TakenControl.found_at.Goals as goal

pub picture_place-pixel-requires-clause-placed : goal.picture_place-pixel-requires-clause-placed
picture_place-pixel-requires-clause-placed g c =
    let x = c.at-window.result.now in
    let x_is : IsWindowAt c.args.windows.now.windows.records.items c.args.at x = subst (λ l. x ≡ slice_index_or l.records.items c.args.at x) c.list.ensures c.at-window.ensures in
    window_placed (control.loan-value g.dyn-1).it (window.loan-value g.dyn-2).it c.args.windows.now c.requires.kept c.args.self.now c.args.at c.requires.at c.args.point x x_is

pub area-requires : goal.area-requires
area-requires g c =
    let x = c.at-window.result.now in
    let x_is : IsWindowAt c.args.windows.now.windows.records.items c.args.at x = subst (λ l. x ≡ slice_index_or l.records.items c.args.at x) c.list.ensures c.at-window.ensures in
    area_low (control.loan-value g.dyn-1).it (window.loan-value g.dyn-2).it c.args.windows.now c.requires.kept c.args.self.now c.args.at c.requires.at c.args.point x x_is

pub returns-then-not-contains : goal.returns-then-not-contains
returns-then-not-contains g c =
    let x = c.at-window.result.now in
    let x_is : IsWindowAt c.args.windows.now.windows.records.items c.args.at x = subst (λ l. x ≡ slice_index_or l.records.items c.args.at x) c.list.ensures c.at-window.ensures in
    of_window c.args.windows.now.windows.records.items c.args.at x c.requires.at x_is
    (λ w. None ≡ found_from (desk_of (window.loan-value g.dyn-2).it c.args.windows.now []) (records_of (control.loan-value g.dyn-1).it c.args.self.now) w.serial w.place c.args.point)
    (nothing_found (control.loan-value g.dyn-1).it (window.loan-value g.dyn-2).it c.args.windows.now c.requires.kept c.args.self.now c.args.at c.requires.at c.args.point x x_is
    c.area.result.now c.area.ensures (ap (holds c.area.result.now.visible) (sym c.picture_place-pixel.ensures) ∙ sym c.contains.ensures ∙ c.if-not-contains.true))

pub returns-in_err-there-in-Control : goal.returns-in_err-there-in-Control
returns-in_err-there-in-Control g c =
    let x = c.at-window.result.now in
    let x_is : IsWindowAt c.args.windows.now.windows.records.items c.args.at x = subst (λ l. x ≡ slice_index_or l.records.items c.args.at x) c.list.ensures c.at-window.ensures in
    of_window c.args.windows.now.windows.records.items c.args.at x c.requires.at x_is
    (λ w. c.from_residual.result ≡ found_from (desk_of (window.loan-value g.dyn-2).it c.args.windows.now []) (records_of (control.loan-value g.dyn-1).it c.args.self.now) w.serial w.place c.args.point)
    (c.from_residual.ensures
    ∙ missing_control (control.loan-value g.dyn-1).it (window.loan-value g.dyn-2).it c.args.windows.now c.requires.kept c.args.self.now c.args.at c.requires.at c.args.point x x_is
    c.area.result.now c.in-Control.serial c.area.ensures (ap (holds c.area.result.now.visible) (sym c.picture_place-pixel.ensures) ∙ sym c.contains.ensures ∙ c.if-not-contains.false)
    (sym c.part_at.ensures ∙ c.in-Control.is) c.in_err-there-in-Control.ensures.first)

pub found_in-requires-clause-settled : goal.found_in-requires-clause-settled
found_in-requires-clause-settled g c =
    settled_at (control.loan-value g.dyn-1).it c.args.self.now.list.items.items c.in_ok-there-in-Control.there c.index.result.now
    c.in_ok-there-in-Control.ensures.within c.index.ensures c.requires.settled

pub returns-in_ok-there-in-Control : goal.returns-in_ok-there-in-Control
returns-in_ok-there-in-Control g c =
    let x = c.at-window.result.now in
    let x_is : IsWindowAt c.args.windows.now.windows.records.items c.args.at x = subst (λ l. x ≡ slice_index_or l.records.items c.args.at x) c.list.ensures c.at-window.ensures in
    of_window c.args.windows.now.windows.records.items c.args.at x c.requires.at x_is
    (λ w. c.found_in.result ≡ found_from (desk_of (window.loan-value g.dyn-2).it c.args.windows.now []) (records_of (control.loan-value g.dyn-1).it c.args.self.now) w.serial w.place c.args.point)
    (control_found (control.loan-value g.dyn-1).it (window.loan-value g.dyn-2).it c.args.windows.now c.requires.kept c.args.self.now c.args.at c.requires.at c.args.point x x_is
    c.area.result.now c.in-Control.serial c.in_ok-there-in-Control.there c.index.result.now c.area.ensures
    (ap (holds c.area.result.now.visible) (sym c.picture_place-pixel.ensures) ∙ sym c.contains.ensures ∙ c.if-not-contains.false)
    (sym c.part_at.ensures ∙ c.in-Control.is) c.in_ok-there-in-Control.ensures.first c.in_ok-there-in-Control.ensures.within c.index.ensures c.found_in.result c.found_in.ensures)

pub returns-in_default : goal.returns-in_default
returns-in_default g c =
    let x = c.at-window.result.now in
    let x_is : IsWindowAt c.args.windows.now.windows.records.items c.args.at x = subst (λ l. x ≡ slice_index_or l.records.items c.args.at x) c.list.ensures c.at-window.ensures in
    of_window c.args.windows.now.windows.records.items c.args.at x c.requires.at x_is
    (λ w. None ≡ found_from (desk_of (window.loan-value g.dyn-2).it c.args.windows.now []) (records_of (control.loan-value g.dyn-1).it c.args.self.now) w.serial w.place c.args.point)
    (no_control_found (control.loan-value g.dyn-1).it (window.loan-value g.dyn-2).it c.args.windows.now c.requires.kept c.args.self.now c.args.at c.requires.at c.args.point x x_is
    c.area.result.now c.area.ensures (ap (holds c.area.result.now.visible) (sym c.picture_place-pixel.ensures) ∙ sym c.contains.ensures ∙ c.if-not-contains.false)
    (λ n is. c.in_default.not-Control n (c.part_at.ensures ∙ is)))
