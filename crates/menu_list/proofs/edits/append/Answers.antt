use Rattle.std.proofs.Common.{rules, SFits, w32, ◌∷◌, [], ◌∙◌, ◌+◌, sym, refl, length, nat_lt}
use Rattle.std.proofs.lemmas.Int.{to_z-of_z}
use Rattle.std.specs.List.{list_any}
use Rattle.tb_geom.specs.declared.refusal.Refusal.TheVariants.{TooLong, TooMany}
use Rattle.menu_record.specs.Appending.{items_of, is_long, why_not_appended}
use Rattle.menu_list.proofs.FoundMenus.{edited_is, not_appended, refused_as}
use Rattle.menu_list.proofs.edits.append.Goals as goal

pub returns-in-Ok : goal.returns-in-Ok
returns-in-Ok g c =
    let fits_m : SFits w32 c.args.append.now.menu = search rules in
    let at = simp to_z-of_z at c.in_ok-at.ensures in
    let xs = c.args.list.now.menus.items in
    let allowed = simp c.as_slice.ensures at c.in-Ok.ensures.allowed in
    let done = simp c.as_slice.ensures at c.in-Ok.ensures.appended in
    let text = c.args.append.now.items in (
      refused_as c.args.append.now.menu xs c.in_ok-at.at at.0 at.1
          (λ items. (list_any is_long (items_of text), TooLong) ∷ (nat_lt 31 (length items + length (items_of text)), TooMany) ∷ [])
          (λ m. why_not_appended text (length m.items)) _ (λ menu. refl) (sym allowed),
      record {
        answered = refl;
        menus = done ∙ sym (edited_is c.args.append.now.menu xs c.in_ok-at.at at.0 at.1 _);
        highlighted = c.in-Ok.ensures.highlighted;
        room = c.in-Ok.ensures.room;
      },
    )

pub returns-in-Err : goal.returns-in-Err
returns-in-Err g c =
    let fits_m : SFits w32 c.args.append.now.menu = search rules in
    let at = simp to_z-of_z at c.in_ok-at.ensures in
    let xs = c.args.list.now.menus.items in
    let refused = simp c.as_slice.ensures at c.in-Err.ensures.refused in
    let text = c.args.append.now.items in (
      not_appended c.args.append.now.menu xs c.in_ok-at.at at.0 at.1
          (λ items. (list_any is_long (items_of text), TooLong) ∷ (nat_lt 31 (length items + length (items_of text)), TooMany) ∷ [])
          text c.in-Err.refusal (λ menu. refl) refused,
      record { menus = c.in-Err.ensures.kept; highlighted = c.in-Err.ensures.highlighted; room = c.in-Err.ensures.room },
    )
