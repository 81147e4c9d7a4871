use Rattle.std.proofs.Common.{arith}
use Rattle.std.proofs.lemmas.Int.{to_z-of_z}
use Rattle.menu_list.proofs.ListLemmas.{moved_is}
use Rattle.menu_list.proofs.list.MenuList.insert.Goals as goal

pub unwrap-requires : goal.unwrap-requires
unwrap-requires g c =
    c.insert.ensures.succeeds (omega (arith, c.requires, c.remove-listed.ensures.len, c.remove-listed.ensures.capacity, c.args.self.now.menus.ok))

pub returns-clause-menus : goal.returns-clause-menus
returns-clause-menus g c =
    let fits = c.ranges.before in
    let put = rw (unwrap-requires g c.before) at c.insert.ensures.items in
    moved_is c.args.before c.args.at c.args.self.now.menus.items c.remove-listed.new.self.items c.insert.new.self.items c.remove-listed.result c.place_before-place.result
    c.requires c.remove-listed.ensures.value c.remove-listed.ensures.items (simp to_z-of_z at c.place_before-place.ensures.value) put
