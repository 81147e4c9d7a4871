use Rattle.std.proofs.Common.{◌∙◌, inl, inr, refl, sym}
use Rattle.lent_ops.proofs.JudgeLemmas.{far_out}
use Rattle.lent_ops.proofs.op_ref.OpRef.judge.Goals as goal
use Rattle.lent_ops.proofs.op_ref.OpRef.judge.Goals.{then-not-is_near-via-then-not-is_near, then-not-is_near-via-else-not-is_near+then-not-is_clip_in_range, then-not-is_near-via-else-not-is_near+else-not-is_clip_in_range+then-not-is_region_in_range}

pub returns-then-not-is_near : goal.returns-then-not-is_near
returns-then-not-is_near c =
    let given = c.args.self.now in
    let bytes = sym c.has_bytes.ensures ∙ c.if-not-has_bytes.false in
    let why = far_out given c.in_ok-is_clip_in_range.is_clip_in_range c.in_ok-is_region_in_range.is_region_in_range bytes c.in_ok-is_clip_in_range.ensures c.in_ok-is_region_in_range.ensures in
    elim c.then-not-is_near.branch [
      | then-not-is_near-via-then-not-is_near w ↦ inr (inr (inl (refl, why (inl (sym c.is_near.ensures ∙ w.if-not-is_near.true)))))
      | then-not-is_near-via-else-not-is_near+then-not-is_clip_in_range w ↦ inr (inr (inl (refl, why (inr (inl w.if-not-is_clip_in_range.true)))))
      | then-not-is_near-via-else-not-is_near+else-not-is_clip_in_range+then-not-is_region_in_range w ↦ inr (inr (inl (refl, why (inr (inr w.if-not-is_region_in_range.true)))))
    ]
