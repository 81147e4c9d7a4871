use Rattle.std.proofs.Common.{rules, ◌≡◌, ◌<◌, ◌≤◌, length, true, false, Some, Err, SFits, w32, sym, ap, ◌∙◌, subst}
use Rattle.std.proofs.lemmas.Int.{to_z-of_z}
use Rattle.control_mgr.specs.ControlRefusals.{is_setting}
use Rattle.def_iface.specs.contracts.taken_control.TakenControlDefined.TheImpl as control
use Rattle.window_items.proofs.SeenLemmas.{count_of-seen}
use Rattle.control_mgr.specs.Laying.{definition_if}
use Rattle.control_mgr.proofs.Judging.{bad_setting, is_given, long_title, many, no_serial, out_of_place, placed_where, refused_so}
use Rattle.control_mgr.proofs.making.Controls+TakenControl.judge.Goals.{in_default-next-via-in-Some-next+else-layer-lt-MOST_CONTROLS, in_default-next-via-in_default-next}
use Rattle.control_mgr.proofs.making.Controls+TakenControl.judge.Goals as goal
use Rattle.control_mgr.specs.Seen.{kept_seen}

pub returns-then-not-may_be_placed : goal.returns-then-not-may_be_placed
returns-then-not-may_be_placed g c =
    let control_loan = (control.loan-value g.dyn-1).it in
    let d = definition_if control_loan c.args.taken in
    let test : c.may_be_placed.result ≡ false = search rules in
    out_of_place _ control_loan c.args.new.now d c.args.windows.now c.args.self.now c.requires c.in-Some.window c.in-Some.ensures c.at.result.now (search rules)
    (sym c.may_be_placed.ensures ∙ test)

pub returns-in_err-values : goal.returns-in_err-values
returns-in_err-values g c =
    let control_loan = (control.loan-value g.dyn-1).it in
    let d = definition_if control_loan c.args.taken in
    let is : c.from_residual.result ≡ Err c.in_err-values.field-0.0 = search rules in
    let minimum : SFits w32 c.args.new.now.minimum = search rules in
    let maximum : SFits w32 c.args.new.now.maximum = search rules in
    let value : SFits w32 c.args.new.now.value = search rules in
    let setting : false ≡ is_setting c.args.new.now.minimum c.args.new.now.maximum c.args.new.now.value = simp to_z-of_z at c.in_err-values.ensures.in_range in
    let test : c.may_be_placed.result ≡ true = search rules in
    refused_so _ control_loan c.args.new.now d c.args.windows.now c.args.self.now _ _ is
    (bad_setting _ control_loan c.args.new.now d c.args.windows.now c.args.self.now c.requires c.in-Some.window c.in-Some.ensures c.at.result.now (search rules)
    (sym c.may_be_placed.ensures ∙ test) (sym setting) ∙ ap Some (sym c.in_err-values.ensures.refused))

pub returns-in_err-title : goal.returns-in_err-title
returns-in_err-title g c =
    let control_loan = (control.loan-value g.dyn-1).it in
    let d = definition_if control_loan c.args.taken in
    let is : c.from_residual-in_err-title.result ≡ Err c.in_err-title.field-0.0 = search rules in
    let minimum : SFits w32 c.args.new.now.minimum = search rules in
    let maximum : SFits w32 c.args.new.now.maximum = search rules in
    let value : SFits w32 c.args.new.now.value = search rules in
    let setting : true ≡ is_setting c.args.new.now.minimum c.args.new.now.maximum c.args.new.now.value = simp to_z-of_z at c.in_ok-values.ensures.in_range in
    let test : c.may_be_placed.result ≡ true = search rules in
    refused_so _ control_loan c.args.new.now d c.args.windows.now c.args.self.now _ _ is
    (long_title _ control_loan c.args.new.now d c.args.windows.now c.args.self.now c.requires c.in-Some.window c.in-Some.ensures c.at.result.now (search rules)
    (sym c.may_be_placed.ensures ∙ test) (sym setting) (subst (λ title. 255 < length title) c.as_slice.ensures c.in_err-title.ensures.1) ∙ ap Some (sym c.in_err-title.ensures.0))

pub returns-in-Some-next : goal.returns-in-Some-next
returns-in-Some-next g c =
    let control_loan = (control.loan-value g.dyn-1).it in
    let d = definition_if control_loan c.args.taken in
    let minimum : SFits w32 c.args.new.now.minimum = search rules in
    let maximum : SFits w32 c.args.new.now.maximum = search rules in
    let value : SFits w32 c.args.new.now.value = search rules in
    let setting : true ≡ is_setting c.args.new.now.minimum c.args.new.now.maximum c.args.new.now.value = simp to_z-of_z at c.in_ok-values.ensures.in_range in
    let made = simp to_z-of_z at c.in_ok-values.ensures.made in
    let test : c.may_be_placed.result ≡ true = search rules in (
      is_given _ control_loan c.args.new.now d c.args.windows.now c.args.self.now c.requires c.in-Some.window c.in-Some.ensures c.at.result.now (search rules)
          (sym c.may_be_placed.ensures ∙ test) (sym setting) (subst (λ title. length title ≤ 255) c.as_slice.ensures c.in_ok-title.ensures.1) c.in-Some-next.serial c.in-Some-next.is
          (search rules),
      record {
        window = c.in-Some.ensures;
        placed = λ w lies. placed_where control_loan c.args.new.now d c.args.windows.now c.in-Some.window c.in-Some.ensures c.at.result.now (search rules) (sym c.may_be_placed.ensures ∙ test) w lies;
        serial = c.in-Some-next.is;
        values = made;
        title = c.in_ok-title.ensures.0 ∙ c.as_slice.ensures;
        layer = c.count-layer.ensures ∙ sym (count_of-seen (kept_seen control_loan) c.args.new.now.window c.args.self.now.list.items.items);
        few = search rules;
      },
    )

pub returns-in_default-next : goal.returns-in_default-next
returns-in_default-next g c =
    let control_loan = (control.loan-value g.dyn-1).it in
    let d = definition_if control_loan c.args.taken in
    let minimum : SFits w32 c.args.new.now.minimum = search rules in
    let maximum : SFits w32 c.args.new.now.maximum = search rules in
    let value : SFits w32 c.args.new.now.value = search rules in
    let setting : true ≡ is_setting c.args.new.now.minimum c.args.new.now.maximum c.args.new.now.value = simp to_z-of_z at c.in_ok-values.ensures.in_range in
    let test : c.may_be_placed.result ≡ true = search rules in
    let short : length c.args.new.now.title ≤ 255 = subst (λ title. length title ≤ 255) c.as_slice.ensures c.in_ok-title.ensures.1 in
    let placed = sym c.may_be_placed.ensures ∙ test in
    elim c.in_default-next.branch [
      | in_default-next-via-in-Some-next+else-layer-lt-MOST_CONTROLS w ↦
          many _ control_loan c.args.new.now d c.args.windows.now c.args.self.now c.requires c.in-Some.window c.in-Some.ensures c.at.result.now (search rules) placed (sym setting) short
          (subst (λ k. 64 ≤ k) c.count-layer.ensures w.if-layer-lt-MOST_CONTROLS.false)
      | in_default-next-via-in_default-next w ↦
          no_serial _ control_loan c.args.new.now d c.args.windows.now c.args.self.now c.requires c.in-Some.window c.in-Some.ensures c.at.result.now (search rules) placed (sym setting) short
          w.in_default-next.is
    ]
