use Rattle.std.proofs.Common.{rules, SFits, w32, ◌∷◌, [], ◌∙◌, sym, refl, inl, not, ◌||◌, pos}
use Rattle.std.proofs.lemmas.Int.{to_z-of_z}
use Rattle.std.specs.Ordering.{int_eq}
use Rattle.tb_geom.specs.declared.refusal.Refusal.TheVariants.{NoSuchItem}
use Rattle.menu_record.specs.Edits.{is_item, why_not_enabled}
use Rattle.menu_list.proofs.FoundMenus.{edited_is, refused_as, item_or_menu}
use Rattle.menu_list.proofs.edits.disable.Goals as goal

pub returns-in-Ok : goal.returns-in-Ok
returns-in-Ok g c =
    let fits_m : SFits w32 c.args.item.menu = search rules in
    let fits_i : SFits w32 c.args.item.item = search rules in
    let at = simp to_z-of_z at c.in_ok-at.ensures in
    let answered = simp to_z-of_z at c.in-Ok.ensures.answered in
    let done = simp to_z-of_z at c.in-Ok.ensures.done in
    let xs = c.args.list.now.menus.items in (
      refused_as c.args.item.menu xs c.in_ok-at.at at.0 at.1 (λ items. (not (int_eq c.args.item.item (pos 0) || is_item c.args.item.item items), NoSuchItem) ∷ []) (why_not_enabled c.args.item.item) _ (λ menu. item_or_menu c.args.item.item menu) answered,
      record {
        answered = refl;
        menus = done ∙ sym (edited_is c.args.item.menu xs c.in_ok-at.at at.0 at.1 _);
        highlighted = c.in-Ok.ensures.highlighted;
        room = c.in-Ok.ensures.room;
      },
    )

pub returns-in-Err : goal.returns-in-Err
returns-in-Err g c =
    let fits_m : SFits w32 c.args.item.menu = search rules in
    let fits_i : SFits w32 c.args.item.item = search rules in
    let at = simp to_z-of_z at c.in_ok-at.ensures in
    let answered = simp to_z-of_z at c.in-Err.ensures.answered in
    let xs = c.args.list.now.menus.items in (
      inl (refused_as c.args.item.menu xs c.in_ok-at.at at.0 at.1 (λ items. (not (int_eq c.args.item.item (pos 0) || is_item c.args.item.item items), NoSuchItem) ∷ []) (why_not_enabled c.args.item.item) _ (λ menu. item_or_menu c.args.item.item menu) answered),
      record { menus = c.in-Err.ensures.kept; highlighted = c.in-Err.ensures.highlighted; room = c.in-Err.ensures.room },
    )
