use Rattle.std.proofs.Common.{rules, SFits, w32}
use Rattle.std.proofs.lemmas.Int.{to_z-of_z}
use Rattle.list_view.specs.Views.{View}
use Rattle.list_view.proofs.ViewLemmas.{view_in_range}
use Rattle.list_view.proofs.view.ListView.rect.Goals as goal

pub returns-clause-in_range : goal.returns-clause-in_range
returns-clause-in_range c =
    let v : View = record { across = c.self.inside.across; down = c.self.inside.down; first = c.self.inside.first } in
    let left : SFits w32 c.self.inside.across.start = search rules in
    let top : SFits w32 c.self.inside.down.start = search rules in
    let right : SFits w32 c.end.result = search rules in
    let bottom : SFits w32 c.end-2.result = search rules in
    simp to_z-of_z (rw (c.end.ensures, c.end-2.ensures) (view_in_range v c.self.invariant))
