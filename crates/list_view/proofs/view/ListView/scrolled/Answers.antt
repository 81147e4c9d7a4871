use Rattle.std.proofs.Common.{rules, SFits, w32}
use Rattle.std.proofs.lemmas.Int.{to_z-of_z}
use Rattle.list_view.specs.Views.{View}
use Rattle.list_view.proofs.ViewLemmas.{scrolled_is}
use Rattle.list_view.proofs.view.ListView.scrolled.Goals as goal

pub returns : goal.returns
returns c =
    let v : View = record { across = c.self.inside.across; down = c.self.inside.down; first = c.self.inside.first } in
    let across : SFits w32 c.args.across = c.ranges.across in
    let down : SFits w32 c.args.down = c.ranges.down in
    let column_fits : SFits w32 c.self.inside.first.column = search rules in
    let row_fits : SFits w32 c.self.inside.first.row = search rules in
    let first_fits : SFits w32 c.scrolled.result = search rules in
    let second_fits : SFits w32 c.scrolled-2.result = search rules in
    let column = simp to_z-of_z at c.scrolled.ensures.value in
    let row = simp to_z-of_z at c.scrolled-2.ensures.value in
    simp to_z-of_z (scrolled_is v c.args.self c.args.columns c.args.rows c.args.across c.args.down c.scrolled.result c.scrolled-2.result c.self.view_is column row)
