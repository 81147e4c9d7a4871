use Rattle.std.proofs.Common.{◌≡◌, ◌∙◌, pos, rules, SFits, w32}
use Rattle.std.proofs.lemmas.Int.{to_z-of_z}
use Rattle.control_values.specs.Settings.{settled}
use Rattle.list_view.specs.Axes.{bound}
use Rattle.list_view.proofs.ViewLemmas.{setting_fits, column_of, is_made}
use Rattle.list_view.proofs.view.ListView.horizontal_values.Goals as goal

pub unwrap-requires : goal.unwrap-requires
unwrap-requires c =
    let bound_fits : SFits w32 c.bound-bound.result = search rules in
    let first_fits : SFits w32 c.first.result.column = search rules in
    let in_range = simp to_z-of_z at c.new.ensures.in_range in
    let first = column_of c.args.self c.first.result c.first.ensures.told c.first.ensures.value in
    is_made c.new.result (in_range ∙ setting_fits c.bound-bound.result c.first.result.column c.bound-bound.ensures.line first)

pub returns : goal.returns
returns c =
    let bound_fits : SFits w32 c.bound-bound.result = search rules in
    let first_fits : SFits w32 c.first.result.column = search rules in
    let made = rw c.unwrap.ensures at c.new.ensures.made in
    let setting : c.unwrap.result ≡ settled (pos 0) c.bound-bound.result c.first.result.column = simp to_z-of_z at made in
    setting ∙ (λ i. settled (pos 0) (c.bound-bound.ensures.value i) (c.first.ensures.value i).column)
    ∙ (λ i. settled (pos 0) (bound (c.across.ensures.value i) c.args.columns) c.args.self.first.column)
