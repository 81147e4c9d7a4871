use Rattle.std.proofs.Common.{◌≡◌, inl, inr, true, false, refl, sym, ◌∙◌, rules}
use Rattle.def_iface.specs.contracts.taken_window.TakenWindowDefined.TheImpl as window
use Rattle.def_iface.specs.contracts.taken_control.TakenControlDefined.TheImpl as control
use Rattle.def_iface.specs.contracts.taken_list.TakenListDefined.TheImpl as list
use Rattle.list_mgr.specs.Offers.{seen_offers}
use Rattle.list_mgr.proofs.MadeSteps.{judged_with, not_judged, nothing_against, one_lacks}
use Rattle.list_mgr.proofs.making.Lists+TakenList.make_with.Goals as goal

pub returns-in-Err-clause-refused : goal.returns-in-Err-clause-refused
returns-in-Err-clause-refused g c =
    let control_loan = (control.loan-value g.dyn-2).it in
    let list_loan = (list.loan-value g.dyn-1).it in
    let offers = seen_offers control_loan list_loan c.args.offers in (
      refl,
      inl (not_judged (window.loan-value g.dyn-3).it control_loan list_loan c.args.new.now c.args.windows.now c.args.controls.now c.args.self.now offers _
          (sym (judged_with (window.loan-value g.dyn-3).it control_loan list_loan c.args.new.now c.args.windows.now c.args.controls.now c.args.self.now _ _ _ _ c.as_ref-vertical.ensures.value c.as_ref-horizontal.ensures.value)
          ∙ c.in-Err.ensures)),
    )

pub returns-then-lacks_any-clause-refused : goal.returns-then-lacks_any-clause-refused
returns-then-lacks_any-clause-refused g c =
    let control_loan = (control.loan-value g.dyn-2).it in
    let list_loan = (list.loan-value g.dyn-1).it in
    let offers = seen_offers control_loan list_loan c.args.offers in
    let lacks : c.lacks_any.result ≡ true = search rules in (
      refl,
      inl (one_lacks (window.loan-value g.dyn-3).it control_loan list_loan c.args.new.now c.args.windows.now c.args.controls.now c.args.self.now offers
          (sym (judged_with (window.loan-value g.dyn-3).it control_loan list_loan c.args.new.now c.args.windows.now c.args.controls.now c.args.self.now _ _ _ _ c.as_ref-vertical.ensures.value c.as_ref-horizontal.ensures.value)
          ∙ c.in-Ok.ensures.judged) (sym c.lacks_any.ensures ∙ lacks)),
    )

pub returns-in-Ok-put_offered-clause-unrefused : goal.returns-in-Ok-put_offered-clause-unrefused
returns-in-Ok-put_offered-clause-unrefused g c =
    let control_loan = (control.loan-value g.dyn-2).it in
    let list_loan = (list.loan-value g.dyn-1).it in
    let offers = seen_offers control_loan list_loan c.args.offers in
    let lacks : c.lacks_any.result ≡ false = search rules in
    nothing_against (window.loan-value g.dyn-3).it control_loan list_loan c.args.new.now c.args.windows.now c.args.controls.now c.args.self.now offers
    (sym (judged_with (window.loan-value g.dyn-3).it control_loan list_loan c.args.new.now c.args.windows.now c.args.controls.now c.args.self.now _ _ _ _ c.as_ref-vertical.ensures.value c.as_ref-horizontal.ensures.value)
    ∙ c.in-Ok.ensures.judged) (sym c.lacks_any.ensures ∙ lacks)

pub returns-in-Err-put_offered-clause-refused : goal.returns-in-Err-put_offered-clause-refused
returns-in-Err-put_offered-clause-refused g c =
    let control_loan = (control.loan-value g.dyn-2).it in
    let list_loan = (list.loan-value g.dyn-1).it in
    let offers = seen_offers control_loan list_loan c.args.offers in
    let lacks : c.lacks_any.result ≡ false = search rules in (
      c.in-Err-put_offered.ensures.same.0,
      inr (
        nothing_against (window.loan-value g.dyn-3).it control_loan list_loan c.args.new.now c.args.windows.now c.args.controls.now c.args.self.now offers
            (sym (judged_with (window.loan-value g.dyn-3).it control_loan list_loan c.args.new.now c.args.windows.now c.args.controls.now c.args.self.now _ _ _ _ c.as_ref-vertical.ensures.value c.as_ref-horizontal.ensures.value)
            ∙ c.in-Ok.ensures.judged) (sym c.lacks_any.ensures ∙ lacks),
        refl,
      ),
    )
