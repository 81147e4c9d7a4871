use Rattle.std.proofs.Common.{◌∙◌, ap, sym, SFits, w32, rules, None, ◌++◌, ◌∷◌, []}
use Rattle.std.proofs.lemmas.Int.{to_z-of_z}
use Rattle.std.proofs.lemmas.List.Sums.{fold_push}
use Rattle.region_bytes.specs.Words.{grown}
use Rattle.region_bytes.proofs.writing.RegionWriter.point.Goals as goal

pub returns : goal.returns
returns c =
    let fits : SFits w32 c.args.point.h = search rules in
    let more = simp to_z-of_z at c.word.ensures in
    λ words points s.
    more words (points ++ c.args.point ∷ []) (record {
      few = s.few;
      many = s.many;
      kept = s.kept;
      bounds = c.grown-self.ensures ∙ ap (λ b. grown b c.args.point) s.bounds ∙ sym (fold_push grown None points c.args.point);
    })
