use Rattle.std.proofs.Common.{◌+ℤ◌, rules, arith, SFits, w32}
use Rattle.std.proofs.lemmas.Int.{ints, to_z-of_z}
use Rattle.list_view.specs.Views.{View}
use Rattle.list_view.proofs.ViewLemmas.{whole_cell_is}
use Rattle.list_view.proofs.view.ListView.whole_cell.Goals as goal

pub overflow_add-result : goal.overflow_add-result
overflow_add-result c =
    let near = c.cell_corner-corner.ensures.across in
    let axis = c.self.invariant.across in
    search (arith, ints)

pub overflow_add-result-2 : goal.overflow_add-result-2
overflow_add-result-2 c =
    let near = c.cell_corner-corner.ensures.down in
    let axis = c.self.invariant.down in
    search (arith, ints)

pub returns : goal.returns
returns c =
    let v : View = record { across = c.self.inside.across; down = c.self.inside.down; first = c.self.inside.first } in
    let corner = c.cell_corner-corner.result in
    let near_left = c.cell_corner-corner.ensures.across in
    let near_top = c.cell_corner-corner.ensures.down in
    let across = c.self.invariant.across in
    let down = c.self.invariant.down in
    let wide : SFits w32 c.self.inside.across.cell = search rules in
    let high : SFits w32 c.self.inside.down.cell = search rules in
    let left : SFits w32 corner.h = search rules in
    let top : SFits w32 corner.v = search rules in
    let right : SFits w32 (corner.h +ℤ c.self.inside.across.cell) = search (arith, ints) in
    let bottom : SFits w32 (corner.v +ℤ c.self.inside.down.cell) = search (arith, ints) in
    simp to_z-of_z (whole_cell_is v c.args.self c.args.cell corner c.self.view_is c.cell_corner-corner.ensures.place)
