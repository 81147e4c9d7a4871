use Rattle.std.proofs.Common.{◌≡◌, true, false, Some, sym, ap, ◌∙◌, rules}
use Rattle.def_iface.specs.contracts.taken_control.TakenControlDefined.TheImpl as control
use Rattle.control_mgr.specs.Laying.{definition_if}
use Rattle.list_view.specs.Bars as bars
use Rattle.list_mgr.specs.ListRefusals.{may_bar_be_in, size_of}
use Rattle.def_iface.specs.ControlMeaning.{is_control_size}
use Rattle.list_mgr.proofs.Judged.{horizontal_does_not, horizontal_fits, they_lie, vertical_does_not, vertical_fits}
use Rattle.list_mgr.proofs.judging.view_with_bars.Goals.{else-down-via-then-down+else-across, else-down-via-else-down}
use Rattle.list_mgr.proofs.judging.view_with_bars.Goals as goal

pub may_bar_be_in-down-requires : goal.may_bar_be_in-down-requires
may_bar_be_in-down-requires g c = ap (λ r. is_control_size (size_of r)) c.vertical_bar.ensures ∙ vertical_fits c.in_ok-view.view c.in_ok-view.ensures.good

pub may_bar_be_in-across-requires : goal.may_bar_be_in-across-requires
may_bar_be_in-across-requires g c = ap (λ r. is_control_size (size_of r)) c.horizontal_bar.ensures ∙ horizontal_fits c.in_ok-view.view c.in_ok-view.ensures.good

pub returns-then-across : goal.returns-then-across
returns-then-across g c w place =
    let control_loan = (control.loan-value g.dyn-1).it in
    let n = c.args.new.now in
    let v = definition_if control_loan c.args.vertical in
    let h = definition_if control_loan c.args.horizontal in
    let down : c.may_bar_be_in-down.result ≡ true = search rules in
    let across : c.may_bar_be_in-across.result ≡ true = search rules in (
      c.in_ok-view.ensures.made,
      they_lie n v h w (sym (c.in_ok-view.ensures.in_range w place))
          (ap (λ r. may_bar_be_in n.vertical_bar v r (Some w)) (sym (c.vertical_bar.ensures ∙ ap bars.vertical_bar c.in_ok-view.ensures.made)) ∙ sym (c.may_bar_be_in-down.ensures w place) ∙ down)
          (ap (λ r. may_bar_be_in n.horizontal_bar h r (Some w)) (sym (c.horizontal_bar.ensures ∙ ap bars.horizontal_bar c.in_ok-view.ensures.made)) ∙ sym (c.may_bar_be_in-across.ensures w place) ∙ across),
    )

pub returns-else-down : goal.returns-else-down
returns-else-down g c w place =
    let control_loan = (control.loan-value g.dyn-1).it in
    let n = c.args.new.now in
    let v = definition_if control_loan c.args.vertical in
    let h = definition_if control_loan c.args.horizontal in
    elim c.else-down.branch [
      | else-down-via-then-down+else-across b ↦
          let across : c.may_bar_be_in-across.result ≡ false = b.if-across.false in
          horizontal_does_not n v h w
          (ap (λ r. may_bar_be_in n.horizontal_bar h r (Some w)) (sym (c.horizontal_bar.ensures ∙ ap bars.horizontal_bar c.in_ok-view.ensures.made)) ∙ sym (c.may_bar_be_in-across.ensures w place) ∙ across)
      | else-down-via-else-down b ↦
          let down : c.may_bar_be_in-down.result ≡ false = b.if-down.false in
          vertical_does_not n v h w
          (ap (λ r. may_bar_be_in n.vertical_bar v r (Some w)) (sym (c.vertical_bar.ensures ∙ ap bars.vertical_bar c.in_ok-view.ensures.made)) ∙ sym (c.may_bar_be_in-down.ensures w place) ∙ down)
    ]
