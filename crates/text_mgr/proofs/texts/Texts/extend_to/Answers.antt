use Rattle.std.proofs.Common.{refl}
use Rattle.text_edits.specs.Selecting.{extended_to}
use Rattle.window_items.specs.Lends.{with_value}
use Rattle.text_mgr.specs.declared.changes.Change.TheVariants.{Selected}
use Rattle.text_mgr.specs.declared.texts.Texts.{Texts}
use Rattle.text_mgr.proofs.Changing.{chosen_alone}
use Rattle.text_mgr.proofs.Places.{record_there}
use Rattle.text_mgr.proofs.Selected.{put_so, within_lent}
use Rattle.text_mgr.proofs.Shown.{beside_edited, shown_lent, spot_edited}
use Rattle.text_mgr.proofs.Written.{written}
use Rattle.text_mgr.proofs.texts.Texts.extend_to.Goals as goal

pub extend-requires-clause-within : goal.extend-requires-clause-within
extend-requires-clause-within g c =
    within_lent c.args.anchor c.args.self.now.list.items.items c.args.spot.text c.at_mut-record.result.now c.requires.spot.is.low c.at_mut-record.ensures.value c.requires.within

pub show_selection-requires-clause-beside : goal.show_selection-requires-clause-beside
show_selection-requires-clause-beside g c =
    let m = c.args.self.now in
    let spot = c.args.spot in
    let f = extended_to c.args.anchor c.args.mode c.args.point in
    let n : Texts = record { alloc = m.alloc; list = with_value m.list spot.text c.extend.new.«record»; scrap = m.scrap } in
    beside_edited _ c.requires.spot.of f m.scrap c.args.windows.now c.args.windows.now m n spot c.requires.spot.is (λ y e. record { framed = refl; view = refl; shown = refl })
    (written f m.list spot.text c.at_mut-record.result.now _ c.at_mut-record.ensures.value c.extend.ensures) refl refl c.requires.beside

pub show_selection-requires-clause-spot : goal.show_selection-requires-clause-spot
show_selection-requires-clause-spot g c =
    let m = c.args.self.now in
    let spot = c.args.spot in
    let f = extended_to c.args.anchor c.args.mode c.args.point in
    let n : Texts = record { alloc = m.alloc; list = with_value m.list spot.text c.extend.new.«record»; scrap = m.scrap } in
    record {
      of = c.requires.spot.of;
      is = spot_edited _ c.requires.spot.of f m.scrap c.args.windows.now c.args.windows.now m n spot c.requires.spot.is (λ y e. record { framed = refl; view = refl; shown = refl })
          (written f m.list spot.text c.at_mut-record.result.now _ c.at_mut-record.ensures.value c.extend.ensures) refl refl;
    }

pub returns : goal.returns
returns g c x is =
    let m = c.args.self.now in
    let spot = c.args.spot in
    let f = extended_to c.args.anchor c.args.mode c.args.point in
    let n : Texts = record { alloc = m.alloc; list = with_value m.list spot.text c.extend.new.«record»; scrap = m.scrap } in
    let items = written f m.list spot.text c.at_mut-record.result.now _ c.at_mut-record.ensures.value c.extend.ensures in
    let its_spot = spot_edited _ x f m.scrap c.args.windows.now c.args.windows.now m n spot is (λ y e. record { framed = refl; view = refl; shown = refl }) items refl refl in
    let there = record_there _ x c.args.windows.now m spot is in
    put_so _ x f c.args.windows.now c.show_selection.new.windows m n spot is (λ y e. record { framed = refl; view = refl; shown = refl }) items refl refl
    (c.show_selection.ensures x its_spot there.item.kept
    (shown_lent f spot.text m.list.items.items n.list.items.items there.item c.at_mut-record.result.now (Selected c.of-was.result) c.args.windows.now.font there.there c.at_mut-record.ensures.value items
    (chosen_alone c.args.windows.now.font c.at_mut-record.result.now _ c.of-was.result c.of-was.ensures refl)))
