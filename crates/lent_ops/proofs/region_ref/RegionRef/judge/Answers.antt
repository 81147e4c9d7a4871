use Rattle.std.proofs.Common.{inl, inr, refl, sym, subst, true, false, Some}
use Rattle.std.proofs.lemmas.Result.{MatchResult-weaker}
use Rattle.lent_ops.proofs.JudgeLemmas.{formed}
use Rattle.lent_ops.specs.Asked.{IsGoodRegion, IsRegionRefused}
use Rattle.lent_ops.proofs.region_ref.RegionRef.judge.Goals as goal

pub returns-in-Combined : goal.returns-in-Combined
returns-in-Combined c =
    MatchResult-weaker c.judge_both.result c.judge_both.ensures
    (λ _ both. subst IsGoodRegion (sym c.in-Combined.is) (record { points = refl; regions = both; near = tt; few = refl }))
    (λ e why. subst (λ r. IsRegionRefused r e) (sym c.in-Combined.is) (elim why [
      | inl (is, bad) ↦ inr (inl (is, bad))
      | inr (is, (formed, far)) ↦ inr (inr (inl (is, record { points = refl; formed = formed; far = inl far })))
    ]))

pub returns-in-Offset : goal.returns-in-Offset
returns-in-Offset c =
    MatchResult-weaker c.judge_moved.result c.judge_moved.ensures
    (λ _ both. subst IsGoodRegion (sym c.in-Offset.is) (record { points = refl; regions = both.0; near = both.1; few = refl }))
    (λ e why. subst (λ r. IsRegionRefused r e) (sym c.in-Offset.is) (elim why [
      | inl (is, bad) ↦ inr (inl (is, bad))
      | inr (is, far) ↦ inr (inr (inl (
        is,
        elim far [
          | inl out ↦ record { points = refl; formed = formed (Some c.in-Offset.bytes) false out; far = inl out }
          | inr (region, away) ↦ record { points = refl; formed = formed (Some c.in-Offset.bytes) true region; far = inr away }
        ],
      )))
    ]))

pub returns-in-Inset : goal.returns-in-Inset
returns-in-Inset c =
    MatchResult-weaker c.judge_inset.result c.judge_inset.ensures
    (λ _ both. subst IsGoodRegion (sym c.in-Inset.is) (record { points = refl; regions = both.0; near = both.1; few = refl }))
    (λ e why. subst (λ r. IsRegionRefused r e) (sym c.in-Inset.is) (elim why [
      | inl (is, bad) ↦ inr (inl (is, bad))
      | inr (is, far) ↦ inr (inr (inl (
        is,
        elim far [
          | inl out ↦ record { points = refl; formed = formed (Some c.in-Inset.bytes) false out; far = inl out }
          | inr (region, away) ↦ record { points = refl; formed = formed (Some c.in-Inset.bytes) true region; far = inr away }
        ],
      )))
    ]))

pub returns-in-FrameRgn : goal.returns-in-FrameRgn
returns-in-FrameRgn c =
    MatchResult-weaker c.judge_frame.result c.judge_frame.ensures
    (λ _ both. subst IsGoodRegion (sym c.in-FrameRgn.is) (record { points = refl; regions = both.0; near = both.1; few = refl }))
    (λ e why. subst (λ r. IsRegionRefused r e) (sym c.in-FrameRgn.is) (elim why [
      | inl (is, bad) ↦ inr (inl (is, bad))
      | inr (is, (formed, far)) ↦ inr (inr (inl (is, record { points = refl; formed = formed; far = far })))
    ]))
