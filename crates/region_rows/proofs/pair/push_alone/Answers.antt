use Rattle.std.proofs.Common.{◌≡◌, [], rules, sym, ap, ◌∙◌, refl}
use Rattle.std.proofs.lemmas.List.{nil_from_length}
use Rattle.region_rows.specs.Edges.{inside}
use Rattle.region_bytes.proofs.Edges.{IsRow-nil}
use Rattle.region_rows.proofs.PairRows.{pushed_some}
use Rattle.region_rows.proofs.pair.push_alone.Goals as goal

pub returns-then-is_empty : goal.returns-then-is_empty
returns-then-is_empty c =
    let nil : c.edges_alone-points.result.items ≡ [] = nil_from_length _ (search rules) in
    record { points = []; pixels = λ h. ap (λ xs. inside xs h) (sym nil) ∙ c.edges_alone-points.ensures.pixels h; row = IsRow-nil; pushed = refl }

pub returns : goal.returns
returns c =
    record {
      points = c.edges_alone-points.result.items;
      pixels = c.edges_alone-points.ensures.pixels;
      row = c.edges_alone-points.ensures.row;
      pushed = pushed_some c.args.rows.now.items c.push.new.self.items c.args.v c.edges_alone-points.result.items (search rules) (search rules);
    }
