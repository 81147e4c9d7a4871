use Rattle.std.proofs.Common.{rules, SFits, w32, ◌∷◌, [], ◌∙◌, sym, refl, inl, not, length, nat_lt}
use Rattle.std.proofs.lemmas.Int.{to_z-of_z}
use Rattle.tb_geom.specs.declared.refusal.Refusal.TheVariants.{NoSuchItem, TooLong}
use Rattle.menu_record.specs.Edits.{is_item, why_no_text}
use Rattle.menu_list.proofs.FoundMenus.{edited_is, refused_as}
use Rattle.menu_list.proofs.edits.set_text.Goals as goal

pub returns-in-Ok : goal.returns-in-Ok
returns-in-Ok g c =
    let fits_m : SFits w32 c.args.text.now.menu = search rules in
    let fits_i : SFits w32 c.args.text.now.item = search rules in
    let at = simp to_z-of_z at c.in_ok-at.ensures in
    let answered = simp (to_z-of_z, c.as_slice.ensures) at c.in-Ok.ensures.answered in
    let done = simp (to_z-of_z, c.as_slice.ensures) at c.in-Ok.ensures.done in
    let xs = c.args.list.now.menus.items in (
      refused_as c.args.text.now.menu xs c.in_ok-at.at at.0 at.1 (λ items. (not (is_item c.args.text.now.item items), NoSuchItem) ∷ (nat_lt 255 (length c.args.text.now.text), TooLong) ∷ []) (λ m. why_no_text c.args.text.now.item c.args.text.now.text m.items) _ (λ menu. refl) answered,
      record {
        answered = refl;
        menus = done ∙ sym (edited_is c.args.text.now.menu xs c.in_ok-at.at at.0 at.1 _);
        highlighted = c.in-Ok.ensures.highlighted;
        room = c.in-Ok.ensures.room;
      },
    )

pub returns-in-Err : goal.returns-in-Err
returns-in-Err g c =
    let fits_m : SFits w32 c.args.text.now.menu = search rules in
    let fits_i : SFits w32 c.args.text.now.item = search rules in
    let at = simp to_z-of_z at c.in_ok-at.ensures in
    let answered = simp (to_z-of_z, c.as_slice.ensures) at c.in-Err.ensures.answered in
    let xs = c.args.list.now.menus.items in (
      inl (refused_as c.args.text.now.menu xs c.in_ok-at.at at.0 at.1 (λ items. (not (is_item c.args.text.now.item items), NoSuchItem) ∷ (nat_lt 255 (length c.args.text.now.text), TooLong) ∷ []) (λ m. why_no_text c.args.text.now.item c.args.text.now.text m.items) _ (λ menu. refl) answered),
      record { menus = c.in-Err.ensures.kept; highlighted = c.in-Err.ensures.highlighted; room = c.in-Err.ensures.room },
    )
