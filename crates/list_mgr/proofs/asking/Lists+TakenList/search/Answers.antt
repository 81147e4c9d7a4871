use Rattle.std.proofs.Common.{◌≡◌, ℕ, List, None, length, ap, ◌∙◌, subst}
use Rattle.std.specs.Str.{bytes_eq}
use Rattle.tb_geom.specs.Refusals.{first_refusal}
use Rattle.list_cells.specs.Grids.{first_from, search_refusals}
use Rattle.list_mgr.proofs.Asked.{search_told}
use Rattle.list_mgr.proofs.asking.Lists+TakenList.search.Goals as goal

pub returns : goal.returns
returns g c =
    let cells = c.index.result.now.kept.cells in
    let from = c.args.asked.now.cell.cell in
    search_told _ _ c.args.windows.now c.args.self.now c.args.asked.now c.in_ok-spot.spot c.index.result.now c.in_ok-spot.ensures c.index.ensures
    (subst (λ (x : List ℕ). first_refusal (search_refusals cells from (length x)) ≡ None) c.as_slice.ensures c.in_ok-found.ensures.allowed) c.in_ok-found.found
    (c.in_ok-found.ensures.first ∙ ap (λ (x : List ℕ). first_from (λ y. bytes_eq y.bytes x) cells from) c.as_slice.ensures)
