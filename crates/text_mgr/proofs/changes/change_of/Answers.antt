use Rattle.std.proofs.Common.{[], SFits, w32, refl, rules, sym, subst}
use Rattle.std.proofs.lemmas.Int.{to_z-of_z}
use Rattle.text_mgr.specs.CallEdits.{edited}
use Rattle.text_mgr.specs.Changing.{IsShownSo}
use Rattle.text_mgr.specs.declared.changes.Change.TheVariants.{Selected}
use Rattle.text_mgr.proofs.Changing.{chosen_alone, nothing_said}
use Rattle.text_mgr.proofs.changes.change_of.Goals as goal

pub returns-in-Insert : goal.returns-in-Insert
returns-in-Insert c scrap =
    let r = c.args.record.now in
    subst (λ call. IsShownSo c.from_selection.result c.args.font.now r (edited call scrap r)) (sym c.in-Insert.is) (c.from_selection.ensures.inserted c.in-Insert.field-0.bytes)

pub returns-in-Delete : goal.returns-in-Delete
returns-in-Delete c scrap =
    let r = c.args.record.now in
    subst (λ call. IsShownSo c.from_selection-in-Delete.result c.args.font.now r (edited call scrap r)) (sym c.in-Delete.is) (c.from_selection-in-Delete.ensures.put r.end [])

pub returns-in-Cut : goal.returns-in-Cut
returns-in-Cut c scrap =
    let r = c.args.record.now in
    subst (λ call. IsShownSo c.from_selection-in-Cut.result c.args.font.now r (edited call scrap r)) (sym c.in-Cut.is) (c.from_selection-in-Cut.ensures.put r.end [])

pub returns-in-Paste : goal.returns-in-Paste
returns-in-Paste c scrap =
    let r = c.args.record.now in
    subst (λ call. IsShownSo c.from_selection-in-Paste.result c.args.font.now r (edited call scrap r)) (sym c.in-Paste.is) (c.from_selection-in-Paste.ensures.put r.end scrap)

pub returns-in-Key : goal.returns-in-Key
returns-in-Key c scrap =
    let r = c.args.record.now in
    let number : SFits w32 c.in-Key.typed.number = search rules in
    subst (λ call. IsShownSo c.from_key.result c.args.font.now r (edited call scrap r)) (sym c.in-Key.is) (simp to_z-of_z at c.from_key.ensures)

pub returns-in-Select : goal.returns-in-Select
returns-in-Select c scrap =
    let r = c.args.record.now in
    subst (λ call. IsShownSo (Selected c.of.result) c.args.font.now r (edited call scrap r)) (sym c.in-Select.is) (chosen_alone c.args.font.now r _ c.of.result c.of.ensures refl)

pub returns-in-Activate : goal.returns-in-Activate
returns-in-Activate c scrap =
    let r = c.args.record.now in
    subst (λ call. IsShownSo (Selected c.of-in-Activate.result) c.args.font.now r (edited call scrap r)) (sym c.in-Activate.is) (chosen_alone c.args.font.now r _ c.of-in-Activate.result c.of-in-Activate.ensures refl)

pub returns-in-Idle : goal.returns-in-Idle
returns-in-Idle c scrap =
    let r = c.args.record.now in
    subst (λ call. IsShownSo (Selected c.of-in-Idle.result) c.args.font.now r (edited call scrap r)) (sym c.in-Idle.is) (chosen_alone c.args.font.now r _ c.of-in-Idle.result c.of-in-Idle.ensures refl)

pub returns-in_default : goal.returns-in_default
returns-in_default c scrap = nothing_said c.args.font.now _ _
