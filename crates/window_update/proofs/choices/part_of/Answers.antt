use Rattle.std.proofs.Common.{◌≡◌, ◌<◌, ◌&&◌, ◌||◌, Bool, true, false, refl, sym, ap, ◌∙◌, length, take, rules}
use Rattle.std.proofs.Math.Seq.{take-length}
use Rattle.tb_geom.specs.Points.{minus}
use Rattle.tb_geom.specs.Pixels.{holds}
use Rattle.desk_layers.specs.Desk.{same_part}
use Rattle.window_list.specs.Holders.{part_at}
use Rattle.window_paint.proofs.KindLayers.{is_among, among_more, all_among}
use Rattle.window_update.proofs.MarkLemmas.{if_ok}
use Rattle.window_update.proofs.choices.part_of.Goals as goal
use Rattle.window_update.proofs.choices.part_of.Goals.{then-is_of+in_ok-owned, else-is_of}

or_turned : (a b : Bool) → (a || b) ≡ (b || a)
or_turned true true = refl
or_turned true false = refl
or_turned false true = refl
or_turned false false = refl

pub loop-at-preserved : goal.loop-at-preserved
loop-at-preserved g c =
    let ls = c.args.window.now.layers.layers in
    let low : c.loop-at.at < length c.args.window.now.layers.layers = search rules in
    λ p.
    let q = part_at c.args.window.now.layers.layers (minus p c.args.window.now.layers.place) in
    elim c.if-is_of.branch [
      | then-is_of+in_ok-owned w ↦
          ap (λ r. holds r p) w.owned-is
          ∙ w.in_ok-owned.ensures p
          ∙ (λ i. c.loop-at.invariant p i || w.owned-then-is_of.ensures c.at.result.now c.at.ensures p i)
          ∙ or_turned (is_among c.args.kind (take c.loop-at.at c.args.window.now.layers.layers) q) (same_part q c.at.result.now.part)
          ∙ ap (λ b. (b && same_part q c.at.result.now.part) || is_among c.args.kind (take c.loop-at.at c.args.window.now.layers.layers) q) (sym (sym c.is_of.ensures ∙ w.if-is_of.true))
          ∙ sym (among_more c.args.kind c.args.window.now.layers.layers c.loop-at.at c.at.result.now low c.at.ensures q)
      | else-is_of w ↦
          ap (λ r. holds r p) w.owned-is
          ∙ c.loop-at.invariant p
          ∙ ap (λ b. (b && same_part q c.at.result.now.part) || is_among c.args.kind (take c.loop-at.at c.args.window.now.layers.layers) q) (sym (sym c.is_of.ensures ∙ w.if-is_of.false))
          ∙ sym (among_more c.args.kind c.args.window.now.layers.layers c.loop-at.at c.at.result.now low c.at.ensures q)
    ]

pub returns : goal.returns
returns g c =
    let all : c.loop-at.at ≡ length c.args.window.now.layers.layers = search rules in
    if_ok c.sect.result (λ own is p. is p
    ∙ ap (λ b. holds c.args.region.now p && b) (c.loop-at.invariant p
    ∙ ap (λ ls. is_among c.args.kind ls (part_at c.args.window.now.layers.layers (minus p c.args.window.now.layers.place))) (ap (λ n. take n c.args.window.now.layers.layers) all ∙ take-length c.args.window.now.layers.layers)
    ∙ all_among c.args.kind c.args.window.now.layers.layers (minus p c.args.window.now.layers.place) c.requires.kind))
    c.sect.ensures
