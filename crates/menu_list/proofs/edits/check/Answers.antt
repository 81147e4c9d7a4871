use Rattle.std.proofs.Common.{rules, SFits, w32, ◌∷◌, [], ◌∙◌, sym, refl, inl, not}
use Rattle.std.proofs.lemmas.Int.{to_z-of_z}
use Rattle.tb_geom.specs.declared.refusal.Refusal.TheVariants.{NoSuchItem}
use Rattle.menu_record.specs.Edits.{is_item, why_no_item}
use Rattle.menu_list.proofs.FoundMenus.{edited_is, refused_as}
use Rattle.menu_list.proofs.edits.check.Goals as goal

pub returns-in-Ok : goal.returns-in-Ok
returns-in-Ok g c =
    let fits_m : SFits w32 c.args.check.menu = search rules in
    let fits_i : SFits w32 c.args.check.item = search rules in
    let at = simp to_z-of_z at c.in_ok-at.ensures in
    let answered = simp to_z-of_z at c.in-Ok.ensures.answered in
    let done = simp to_z-of_z at c.in-Ok.ensures.done in
    let xs = c.args.list.now.menus.items in (
      refused_as c.args.check.menu xs c.in_ok-at.at at.0 at.1 (λ items. (not (is_item c.args.check.item items), NoSuchItem) ∷ []) (λ m. why_no_item c.args.check.item m.items) _ (λ menu. refl) answered,
      record {
        answered = refl;
        menus = done ∙ sym (edited_is c.args.check.menu xs c.in_ok-at.at at.0 at.1 _);
        highlighted = c.in-Ok.ensures.highlighted;
        room = c.in-Ok.ensures.room;
      },
    )

pub returns-in-Err : goal.returns-in-Err
returns-in-Err g c =
    let fits_m : SFits w32 c.args.check.menu = search rules in
    let fits_i : SFits w32 c.args.check.item = search rules in
    let at = simp to_z-of_z at c.in_ok-at.ensures in
    let answered = simp to_z-of_z at c.in-Err.ensures.answered in
    let xs = c.args.list.now.menus.items in (
      inl (refused_as c.args.check.menu xs c.in_ok-at.at at.0 at.1 (λ items. (not (is_item c.args.check.item items), NoSuchItem) ∷ []) (λ m. why_no_item c.args.check.item m.items) _ (λ menu. refl) answered),
      record { menus = c.in-Err.ensures.kept; highlighted = c.in-Err.ensures.highlighted; room = c.in-Err.ensures.room },
    )
