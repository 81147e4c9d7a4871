use Rattle.std.proofs.Common.{◌≡◌, ℕ, pos, true, false, Option, Some, None, is_none, is_some, inl, refl, sym, ap, ◌∙◌, rules, SFits, w32, not, ◌&&◌, [], ◌∷◌, arith}
use Rattle.std.specs.Ordering.{int_eq}
use Rattle.std.proofs.lemmas.Int.{ints, to_z-of_z}
use Rattle.tb_geom.specs.declared.refusal.Refusal.TheVariants.{NoSuchMenu}
use Rattle.tb_geom.specs.Refusals.{first_refusal}
use Rattle.menu_list.specs.EditRefusals.{is_no_menu}
use Rattle.menu_list.proofs.edits.hilite.Goals as goal

none_of : (o : Option ℕ) → is_some o ≡ false → is_none o ≡ true
none_of None e = refl
none_of (Some n) e = absurd (cc)

pub returns-then-is_none : goal.returns-then-is_none
returns-then-is_none g c =
    let fits : SFits w32 c.args.menu = search rules in
    let first = simp to_z-of_z at c.find.ensures.first in
    let none : is_no_menu c.args.menu c.args.list.now.menus.items ≡ true = ap is_none (sym first) ∙ none_of c.find.result c.if-is_none.ensures in
    let asked : int_eq c.args.menu (pos 0) ≡ false = grind (arith, ints) in (
      inl (λ i. first_refusal ((not (asked i) && none i, NoSuchMenu) ∷ [])),
      record { menus = refl; highlighted = refl; room = omega arith },
    )
