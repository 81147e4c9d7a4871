use Rattle.std.proofs.Common.{◌≡◌, ℕ, ◌<◌, true, sym, subst, rules, w32, to_z, of_z}
use Rattle.tb_geom.specs.declared.point.Point.{Point}
use Rattle.tb_geom.specs.Points.{PixelSet, minus}
use Rattle.bit_map.specs.Rules.{right_of}
use Rattle.bit_blit.specs.Sources.{IsNearSource}
use Rattle.bit_blit.proofs.SourceLemmas.{stopped, stopped-same, stopped-row, same_point}
use Rattle.bit_blit.proofs.copying.from_origin.Goals as goal

pub returns-clause-here : goal.returns-clause-here
returns-clause-here c =
    let p = c.args.point in
    let o = c.args.origin in
    let e : (record { h = to_z w32 (of_z w32 c.saturating_sub.result); v = to_z w32 (of_z w32 c.saturating_sub-2.result) }) ≡ stopped p o = same_point _ (stopped p o) (search rules) (search rules) in
    subst (λ (q : Point). (s : PixelSet) → IsNearSource s → (s q ≡ s (minus p o)) × (s q ≡ true → q ≡ minus p o)) (sym e) (stopped-same p o)

pub returns-clause-row : goal.returns-clause-row
returns-clause-row c =
    let p = c.args.point in
    let o = c.args.origin in
    let e : (record { h = to_z w32 (of_z w32 c.saturating_sub.result); v = to_z w32 (of_z w32 c.saturating_sub-2.result) }) ≡ stopped p o = same_point _ (stopped p o) (search rules) (search rules) in
    subst (λ (q : Point). (s : PixelSet) → IsNearSource s → (k : ℕ) → k < 64 → (s (right_of q k) ≡ s (minus (right_of p k) o)) × (s (right_of q k) ≡ true → right_of q k ≡ minus (right_of p k) o)) (sym e) (stopped-row p o)
