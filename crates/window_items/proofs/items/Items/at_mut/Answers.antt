use Rattle.std.proofs.Common.{◌≡◌, refl, sym, ap, subst}
use Rattle.std.specs.Prelude.{IfSome}
use Rattle.std.specs.Option.{option_map_or}
use Rattle.std.specs.Vec.{with_item}
use Rattle.window_items.specs.Items.{with_kept}
use Rattle.window_items.proofs.ListLemmas.{read_there}
use Rattle.window_items.proofs.items.Items.at_mut.Goals as goal

pub returns : goal.returns
returns g c =
    let xs = c.args.self.now.items in
    let at = c.args.at in
    let item = c.index_mut-item.result.now in
    let there = read_there xs.items at item c.requires c.index_mut-item.ensures.value in (
      (
        refl,
        λ w. ap (λ o. record c.args.self.now { items = option_map_or (λ i. with_item xs at (with_kept (λ _. w) i)) o xs }) (sym there),
      ),
      record { writes_back = tt; value = subst (λ o. IfSome o (λ i. item.kept ≡ i.kept)) (sym there) refl },
    )
