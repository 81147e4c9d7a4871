-- How often a plan writes pixels.
use Rattle.std.proofs.Common.{◌≡◌, ℕ, ◌+◌, ◌<◌, Bool, true, false, ◌||◌, List, [], ◌∷◌, ◌++◌, length, get_or, take, Option, refl, sym, subst, ap, ◌∙◌, arith}
use Rattle.std.proofs.Math.Seq.{take-length}
use Rattle.std.proofs.lemmas.List.{take_more}
use Rattle.tb_geom.specs.declared.point.Point.{Point}
use Rattle.tb_geom.specs.Pixels.{holds}
use Rattle.bit_map.specs.Bits.{Bits, on_map}
use Rattle.bit_blit.specs.Draws.{DrawsOnce}
use Rattle.vis_update.specs.declared.plan.Repaint.{Repaint}
use Rattle.vis_update.specs.declared.plan.Plan.{Plan}
use Rattle.window_mgr.specs.Commits.{erased, redrawn, planned_times}
use Rattle.window_paint.specs.Writes.{IsWrittenBy, one, nowhere, arrives}
use Rattle.window_paint.proofs.WritesLemmas.{by_over, region_written}

erased_snoc : (parts : List Repaint) (part : Repaint) (p : Point) → erased (parts ++ part ∷ []) p ≡ erased parts p + one (holds part.erase p)
erased_snoc [] part p = omega arith
erased_snoc (r ∷ parts) part p = let e = erased_snoc parts part p in omega (arith, e)

redrawn_snoc : (parts : List Repaint) (part : Repaint) (p : Point) → redrawn (parts ++ part ∷ []) p ≡ false → (redrawn parts p ≡ false) × (holds part.redraw p ≡ false)
redrawn_snoc [] part p out = (refl, or_first (holds part.redraw p) false out)
  where
    or_first : (a b : Bool) → (a || b) ≡ false → a ≡ false
    or_first true b e = absurd (cc e)
    or_first false b e = refl
redrawn_snoc (r ∷ parts) part p out = by_test (holds r.redraw p) refl (λ e. redrawn_snoc parts part p e)
  where
    by_test : (t : Bool) → holds r.redraw p ≡ t → (redrawn (parts ++ part ∷ []) p ≡ false → (redrawn parts p ≡ false) × (holds part.redraw p ≡ false))
        → ((holds r.redraw p || redrawn parts p) ≡ false) × (holds part.redraw p ≡ false)
    by_test true e rest = absurd (cc (e, out, ap (λ t. t || redrawn (parts ++ part ∷ []) p) e))
    by_test false e rest = let more = rest (ap (λ t. t || redrawn (parts ++ part ∷ []) p) (sym e) ∙ out) in (ap (λ t. t || redrawn parts p) e ∙ more.0, more.1)

-- one window's part more
pub parts_more : (parts : List Repaint) (i : ℕ) (part : Repaint) (old mid new : Bits) → i < length parts → part ≡ get_or parts i part → ((p : Point) → on_map mid p ≡ on_map old p)
    → IsWrittenBy (erased (take i parts)) (redrawn (take i parts)) old mid → IsWrittenBy (λ p. one (holds part.erase p)) (holds part.redraw) mid new
    → IsWrittenBy (erased (take (i + 1) parts)) (redrawn (take (i + 1) parts)) old new
parts_more parts i part old mid new low part_is same so more =
    let here : take (i + 1) parts ≡ take i parts ++ part ∷ [] = take_more parts i part low ∙ ap (λ y. take i parts ++ y ∷ []) (sym part_is) in
    subst (λ ps. IsWrittenBy (erased ps) (redrawn ps) old new) (sym here)
    (by_over (erased (take i parts)) (λ p. one (holds part.erase p)) (erased (take i parts ++ part ∷ [])) (redrawn (take i parts)) (holds part.redraw) (redrawn (take i parts ++ part ∷ [])) old mid new same
    (λ p out. redrawn_snoc (take i parts) part p out) (λ p. let e = erased_snoc (take i parts) part p in omega (arith, e)) so more)

-- and all of them
pub parts_all : (parts : List Repaint) (i : ℕ) (old new : Bits) → i ≡ length parts → IsWrittenBy (erased (take i parts)) (redrawn (take i parts)) old new → IsWrittenBy (erased parts) (redrawn parts) old new
parts_all parts i old new all so = subst (λ ps. IsWrittenBy (erased ps) (redrawn ps) old new) (ap (λ n. take n parts) all ∙ take-length parts) so

-- pixels that arrive, the desktop that is new, and the windows' parts
pub plan_written : (plan : Plan) (by : Option Point) (f : Point → Bool → Bool) (old moved filled new : Bits) → ((p : Point) → on_map moved p ≡ on_map old p) → ((p : Point) → on_map filled p ≡ on_map moved p)
    → IsWrittenBy (arrives plan.copied by) nowhere old moved
    → DrawsOnce (holds plan.uncovered) f moved filled
    → IsWrittenBy (erased plan.parts.items) (redrawn plan.parts.items) filled new
    → IsWrittenBy (planned_times plan by) (redrawn plan.parts.items) old new
plan_written plan by f old moved filled new same same_too first second third =
    by_over (arrives plan.copied by) (λ p. one (holds plan.uncovered p) + erased plan.parts.items p) (planned_times plan by) nowhere (redrawn plan.parts.items) (redrawn plan.parts.items) old moved new same
    (λ p out. (refl, out)) (λ p. omega arith) first
    (by_over (λ p. one (holds plan.uncovered p)) (erased plan.parts.items) (λ p. one (holds plan.uncovered p) + erased plan.parts.items p) nowhere (redrawn plan.parts.items) (redrawn plan.parts.items) moved filled new same_too
    (λ p out. (refl, out)) (λ p. omega arith) (region_written plan.uncovered f moved filled second) third)
