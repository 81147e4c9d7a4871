use Rattle.std.proofs.Common.{◌≡◌, Err, refl, rules}
use Rattle.def_iface.specs.contracts.taken_window.TakenWindowDefined.TheImpl as window
use Rattle.def_iface.specs.contracts.taken_control.TakenControlDefined.TheImpl as control
use Rattle.def_iface.specs.contracts.taken_list.TakenListDefined.TheImpl as list
use Rattle.vis_update.specs.Records.{record_of}
use Rattle.window_mgr.specs.Edits.{IsWindowAt}
use Rattle.control_mgr.specs.Laying.{definition_if}
use Rattle.list_mgr.proofs.Judged.{counts_ill, judged_ill, judged_well, lies_ill, refused_so}
use Rattle.list_mgr.proofs.judging.Lists+TakenList.judge.Goals as goal

pub returns-in_err-view : goal.returns-in_err-view
returns-in_err-view g c =
    let control_loan = (control.loan-value g.dyn-2).it in
    let v = definition_if control_loan c.args.vertical in
    let h = definition_if control_loan c.args.horizontal in
    let w = c.at.result.now in
    let lies : IsWindowAt c.args.windows.now.windows.records.items c.in-Some.window w = search rules in
    let is : c.from_residual.result ≡ Err c.in_err-view.field-0.0 = search rules in
    refused_so (window.loan-value g.dyn-3).it control_loan (list.loan-value g.dyn-1).it c.args.new.now v h c.args.windows.now c.args.controls.now c.args.self.now _ _ is
    (lies_ill (window.loan-value g.dyn-3).it control_loan (list.loan-value g.dyn-1).it c.args.new.now v h c.args.windows.now c.args.controls.now c.args.self.now
    c.requires c.in-Some.window c.in-Some.ensures w lies _ (c.in_err-view.ensures (record_of (window.loan-value g.dyn-3).it w) refl))

pub returns-in_err-flags : goal.returns-in_err-flags
returns-in_err-flags g c =
    let control_loan = (control.loan-value g.dyn-2).it in
    let v = definition_if control_loan c.args.vertical in
    let h = definition_if control_loan c.args.horizontal in
    let w = c.at.result.now in
    let lies : IsWindowAt c.args.windows.now.windows.records.items c.in-Some.window w = search rules in
    let is : c.from_residual-in_err-flags.result ≡ Err c.in_err-flags.field-0.0 = search rules in
    refused_so (window.loan-value g.dyn-3).it control_loan (list.loan-value g.dyn-1).it c.args.new.now v h c.args.windows.now c.args.controls.now c.args.self.now _ _ is
    (counts_ill (window.loan-value g.dyn-3).it control_loan (list.loan-value g.dyn-1).it c.args.new.now v h c.args.windows.now c.args.controls.now c.args.self.now
    c.requires c.in-Some.window c.in-Some.ensures w lies (c.in_ok-view.ensures (record_of (window.loan-value g.dyn-3).it w) refl).1 _ c.in_err-flags.ensures)

pub returns-in_err-serial : goal.returns-in_err-serial
returns-in_err-serial g c =
    let control_loan = (control.loan-value g.dyn-2).it in
    let v = definition_if control_loan c.args.vertical in
    let h = definition_if control_loan c.args.horizontal in
    let w = c.at.result.now in
    let lies : IsWindowAt c.args.windows.now.windows.records.items c.in-Some.window w = search rules in
    let is : c.from_residual-in_err-serial.result ≡ Err c.in_err-serial.field-0.0 = search rules in
    refused_so (window.loan-value g.dyn-3).it control_loan (list.loan-value g.dyn-1).it c.args.new.now v h c.args.windows.now c.args.controls.now c.args.self.now _ _ is
    (judged_ill (window.loan-value g.dyn-3).it control_loan (list.loan-value g.dyn-1).it c.args.new.now v h c.args.windows.now c.args.controls.now c.args.self.now
    c.requires c.in-Some.window c.in-Some.ensures w lies (c.in_ok-view.ensures (record_of (window.loan-value g.dyn-3).it w) refl).1 c.in_ok-flags.ensures.1
    c.count-count.result c.next_serial-bar.result c.count-count.ensures c.next_serial-bar.ensures _ c.in_err-serial.ensures)

pub returns : goal.returns
returns g c =
    let control_loan = (control.loan-value g.dyn-2).it in
    let v = definition_if control_loan c.args.vertical in
    let h = definition_if control_loan c.args.horizontal in
    let w = c.at.result.now in
    let lies : IsWindowAt c.args.windows.now.windows.records.items c.in-Some.window w = search rules in
    let view = c.in_ok-view.ensures (record_of (window.loan-value g.dyn-3).it w) refl in
    record {
      window = c.in-Some.ensures;
      judged = judged_well (window.loan-value g.dyn-3).it control_loan (list.loan-value g.dyn-1).it c.args.new.now v h c.args.windows.now c.args.controls.now c.args.self.now
          c.requires c.in-Some.window c.in-Some.ensures w lies view.1 c.in_ok-flags.ensures.1 c.count-count.result c.next_serial-bar.result c.count-count.ensures c.next_serial-bar.ensures c.in_ok-serial.ensures.1;
      serial = c.in_ok-serial.ensures.0;
      flags = c.in_ok-flags.ensures.0;
      view = view.0;
      controls = c.count-count.ensures;
      bar = c.next_serial-bar.ensures;
    }
