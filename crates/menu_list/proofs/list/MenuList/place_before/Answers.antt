use Rattle.std.proofs.Common.{◌≡◌, ap, ◌∙◌, length, rules}
use Rattle.std.specs.Option.{unwrap_or}
use Rattle.std.proofs.lemmas.Int.{to_z-of_z}
use Rattle.menu_list.proofs.list.MenuList.place_before.Goals as goal

pub returns-in-Some-clause-value : goal.returns-in-Some-clause-value
returns-in-Some-clause-value g c =
    let fits = c.ranges.id in
    ap (λ o. unwrap_or o (length c.args.self.now.menus.items)) (simp to_z-of_z at c.in-Some.ensures.first)

pub returns-in-None-clause-value : goal.returns-in-None-clause-value
returns-in-None-clause-value g c =
    let fits = c.ranges.id in
    let all : c.len.result ≡ length c.args.self.now.menus.items = search rules in
    all ∙ ap (λ o. unwrap_or o (length c.args.self.now.menus.items)) (simp to_z-of_z at c.in-None.ensures.first)
