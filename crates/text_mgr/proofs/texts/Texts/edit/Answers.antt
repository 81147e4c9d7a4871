use Rattle.std.proofs.Common.{rules, refl, subst}
use Rattle.window_items.specs.Lends.{with_value}
use Rattle.text_mgr.specs.declared.texts.Texts.{Texts}
use Rattle.text_mgr.specs.CallEdits.{edited}
use Rattle.text_mgr.specs.Changing.{IsShownSo}
use Rattle.text_mgr.proofs.Edited.{edit_done, edit_failed, edit_missing, same_written}
use Rattle.text_mgr.proofs.Edits.{edited_box}
use Rattle.text_mgr.proofs.Places.{record_there}
use Rattle.text_mgr.proofs.Shown.{beside_edited, shown_lent, spot_edited}
use Rattle.text_mgr.proofs.Written.{written}
use Rattle.text_mgr.proofs.texts.Texts.edit.Goals as goal

pub returns-in_err-spot : goal.returns-in_err-spot
returns-in_err-spot g c =
    edit_missing _ c.args.text c.args.call.now c.requires.edits c.args.windows.now c.args.self.now c.from_residual.result c.in_err-spot.field-0.0 (search rules) c.in_err-spot.ensures

pub returns-in_err-edit_record : goal.returns-in_err-edit_record
returns-in_err-edit_record g c =
    let m = c.args.self.now in
    let spot = c.in_ok-spot.spot in
    let n : Texts = record { alloc = m.alloc; list = with_value m.list spot.text c.edit_record.new.«record»; scrap = c.edit_record.new.scrap } in
    let its = c.in_err-edit_record.ensures in
    edit_failed _ c.args.text c.args.call.now c.requires.edits c.args.windows.now m spot c.in_ok-spot.ensures c.at_mut-record.result.now c.at_mut-record.ensures.value c.from_residual-in_err-edit_record.result c.in_err-edit_record.field-0.0 n
    (search rules) its.judged (same_written m.list spot.text c.at_mut-record.result.now _ c.at_mut-record.ensures.value its.«record») refl its.scrap

pub show_change-requires-clause-beside : goal.show_change-requires-clause-beside
show_change-requires-clause-beside g c =
    let m = c.args.self.now in
    let spot = c.in_ok-spot.spot in
    let n : Texts = record { alloc = m.alloc; list = with_value m.list spot.text c.edit_record.new.«record»; scrap = c.edit_record.new.scrap } in
    let call = c.args.call.now in
    let its = c.in_ok-edit_record.ensures in
    beside_edited _ c.args.text (edited call m.scrap) _ c.args.windows.now c.args.windows.now m n spot c.in_ok-spot.ensures (λ y e. edited_box call m.scrap y.kept)
    (written (edited call m.scrap) m.list spot.text c.at_mut-record.result.now _ c.at_mut-record.ensures.value its.«record») refl its.scrap c.requires.beside

pub show_change-requires-clause-spot : goal.show_change-requires-clause-spot
show_change-requires-clause-spot g c =
    let m = c.args.self.now in
    let spot = c.in_ok-spot.spot in
    let n : Texts = record { alloc = m.alloc; list = with_value m.list spot.text c.edit_record.new.«record»; scrap = c.edit_record.new.scrap } in
    let call = c.args.call.now in
    let its = c.in_ok-edit_record.ensures in
    record {
      of = c.args.text;
      is = spot_edited _ c.args.text (edited call m.scrap) _ c.args.windows.now c.args.windows.now m n spot c.in_ok-spot.ensures (λ y e. edited_box call m.scrap y.kept)
          (written (edited call m.scrap) m.list spot.text c.at_mut-record.result.now _ c.at_mut-record.ensures.value its.«record») refl its.scrap;
    }

pub returns : goal.returns
returns g c =
    let m = c.args.self.now in
    let spot = c.in_ok-spot.spot in
    let n : Texts = record { alloc = m.alloc; list = with_value m.list spot.text c.edit_record.new.«record»; scrap = c.edit_record.new.scrap } in
    let call = c.args.call.now in
    let its = c.in_ok-edit_record.ensures in
    let items = written (edited call m.scrap) m.list spot.text c.at_mut-record.result.now _ c.at_mut-record.ensures.value its.«record» in
    let its_spot = spot_edited _ c.args.text (edited call m.scrap) _ c.args.windows.now c.args.windows.now m n spot c.in_ok-spot.ensures (λ y e. edited_box call m.scrap y.kept) items refl its.scrap in
    let there = record_there _ c.args.text c.args.windows.now m spot c.in_ok-spot.ensures in
    edit_done _ c.args.text call c.requires.edits c.args.windows.now m spot c.in_ok-spot.ensures c.at_mut-record.result.now c.at_mut-record.ensures.value c.show_change.new.windows n items refl its.scrap its.judged
    (c.show_change.ensures c.args.text its_spot there.item.kept
    (shown_lent (edited call m.scrap) spot.text m.list.items.items n.list.items.items there.item c.at_mut-record.result.now c.change_of-change.result c.args.windows.now.font there.there c.at_mut-record.ensures.value items
    (subst (λ font. IsShownSo c.change_of-change.result font c.at_mut-record.result.now (edited call m.scrap c.at_mut-record.result.now)) c.parts.ensures.font (c.change_of-change.ensures m.scrap))))
