use Rattle.std.proofs.Common.{◌≡◌, Some, get_or, refl, sym, ap, ◌∙◌, subst}
use Rattle.std.specs.Option.{IsSome}
use Rattle.desk_layers.specs.declared.part.Part.TheVariants as part
use Rattle.window_list.specs.Holders.{layer_index}
use Rattle.control_mgr.proofs.Lays.{one_item}
use Rattle.control_mgr.proofs.Places.{get_is}
use Rattle.text_mgr.specs.TextDesks.{KeptText}
use Rattle.text_mgr.proofs.Shown.{found_at}
use Rattle.text_mgr.proofs.texts.Texts.layer.Goals as goal

pub unwrap-requires : goal.unwrap-requires
unwrap-requires g c =
    let v = c.at.result.now in
    let y = c.index.result.now in
    let spot = c.requires.spot in
    let found = found_at _ spot.of c.args.windows.now c.args.self.now c.args.spot spot.is c.requires.beside y c.index.ensures v (c.at.ensures ∙ ap (λ ls. get_or ls.records.items c.args.spot.window v) c.list.ensures)
    c.find.result c.find.ensures.first in
    subst IsSome (sym found) refl

pub returns : goal.returns
returns g c x x_is w w_is =
    let v = c.at.result.now in
    let y = c.index.result.now in
    let spot = c.requires.spot in
    let v_is = c.at.ensures ∙ ap (λ ls. get_or ls.records.items c.args.spot.window v) c.list.ensures in
    let both : Some y ≡ Some x = sym (get_is c.args.self.now.list.items.items c.args.spot.text y spot.is.low c.index.ensures) ∙ x_is in
    let same : y ≡ x = cc in
    subst (λ (z : KeptText). layer_index (part.Text z.serial) w.layers.layers ≡ Some c.unwrap.result) same
    (subst (λ z. layer_index (part.Text y.serial) z.layers.layers ≡ Some c.unwrap.result) (one_item c.args.windows.now.windows.records.items c.args.spot.window v w spot.is.window.0 v_is w_is)
    (sym c.find.ensures.first ∙ c.unwrap.ensures))
