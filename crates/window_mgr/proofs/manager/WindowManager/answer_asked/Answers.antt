use Rattle.std.proofs.Common.{inl, inr, refl}
use Rattle.def_iface.specs.contracts.taken_window.TakenWindowDefined.TheImpl as taken
use Rattle.desk_call.specs.declared.window.WindowCall.TheVariants.{Region}
use Rattle.window_mgr.specs.Records.{state_of}
use Rattle.window_mgr.proofs.AskedLemmas.{bad_refused, told_allowed, untold_refused}
use Rattle.window_mgr.proofs.SameDeskLemmas.{is_refused}
use Rattle.window_mgr.proofs.manager.WindowManager.answer_asked.Goals as goal

pub returns-in-Ok : goal.returns-in-Ok
returns-in-Ok g c slots whole =
    let state = state_of (taken.loan-value g.dyn-1).it c.args.self.now slots in
    let told = told_allowed c.args.region.now state c.in-Ok.ensures.0 c.in-Ok.bytes.items c.in-Ok.ensures.1 in
    (whole, (told, (c.in-Ok.ensures.1, record { desk = refl; stale = λ p on. refl; image = λ p on. refl })))

pub returns-in-Err : goal.returns-in-Err
returns-in-Err g c =
    let loan = (taken.loan-value g.dyn-1).it in
    let t = c.args.self.now in
    elim c.in-Err.ensures [
      | inl bad ↦ is_refused loan t (Region c.args.region.now) c.in-Err.refusal (λ slots whole. bad_refused c.args.region.now (state_of loan t slots) c.in-Err.refusal bad)
      | inr untold ↦ is_refused loan t (Region c.args.region.now) c.in-Err.refusal (λ slots whole. untold_refused c.args.region.now (state_of loan t slots) untold.0 c.in-Err.refusal untold.1)
    ]
