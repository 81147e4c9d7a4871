-- Why a call is refused for its names and bytes alone.
use Rattle.std.proofs.Common.{◌≡◌, inl, inr, true, false, Some, None, refl, sym, ap, ◌∙◌, subst}
use Rattle.tb_geom.specs.declared.refusal.Refusal.{Refusal}
use Rattle.tb_geom.specs.declared.refusal.Refusal.TheVariants.{BadSyntax, BadRegion, OutOfRange, TooLong}
use Rattle.lent_ops.specs.declared.region_ref.RegionRef.{RegionRef}
use Rattle.lent_ops.specs.Asked.{IsGoodRegion, IsRegionRefused}
use Rattle.lent_ops.specs.OpRefs.{IsGood, IsRefused}
use Rattle.desk_call.specs.declared.window.Drawing.{Drawing}
use Rattle.desk_call.specs.declared.window.WindowCall.TheVariants.{Draw, Region}
use Rattle.window_mgr.specs.FullDesk.{FullDesk}
use Rattle.window_mgr.specs.Refused.{IsFormRefusal, is_formal}

module _ (d : Drawing) (desk : FullDesk) where
  -- an operation that is good waits for its turn
  pub good : IsGood d.operation → IsFormRefusal (Draw d) desk None
  good its = (None, its, refl)

  -- bytes that have not their form are refused at once
  pub formal : (e : Refusal) → IsRefused d.operation e → is_formal e ≡ true → IsFormRefusal (Draw d) desk (Some e)
  formal e (inl (is, rows)) f = subst (λ x. IsFormRefusal (Draw d) desk (Some x)) (sym is) (Some BadSyntax, inl (refl, rows), refl)
  formal e (inr (inl (is, bad))) f = subst (λ x. IsFormRefusal (Draw d) desk (Some x)) (sym is) (Some BadRegion, inr (inl (refl, bad)), refl)
  formal e (inr (inr (inl (is, far)))) f = let two : is_formal OutOfRange ≡ true = sym (ap is_formal is) ∙ f in absurd (cc)
  formal e (inr (inr (inr (is, long)))) f = let two : is_formal TooLong ≡ true = sym (ap is_formal is) ∙ f in absurd (cc)

  -- other refusals wait for their turn
  pub waits : (e : Refusal) → IsRefused d.operation e → is_formal e ≡ false → IsFormRefusal (Draw d) desk None
  waits e (inl (is, rows)) f = let two : is_formal BadSyntax ≡ false = sym (ap is_formal is) ∙ f in absurd (cc)
  waits e (inr (inl (is, bad))) f = let two : is_formal BadRegion ≡ false = sym (ap is_formal is) ∙ f in absurd (cc)
  waits e (inr (inr (inl (is, far)))) f = (Some OutOfRange, inr (inr (inl (refl, far))), refl)
  waits e (inr (inr (inr (is, long)))) f = (Some TooLong, inr (inr (inr (refl, long))), refl)

module _ (r : RegionRef) (desk : FullDesk) where
  -- so with a region that is asked for
  pub good_region : IsGoodRegion r → IsFormRefusal (Region r) desk None
  good_region its = (None, its, refl)

  pub formal_region : (e : Refusal) → IsRegionRefused r e → is_formal e ≡ true → IsFormRefusal (Region r) desk (Some e)
  formal_region e (inl (is, points)) f = subst (λ x. IsFormRefusal (Region r) desk (Some x)) (sym is) (Some BadSyntax, inl (refl, points), refl)
  formal_region e (inr (inl (is, bad))) f = subst (λ x. IsFormRefusal (Region r) desk (Some x)) (sym is) (Some BadRegion, inr (inl (refl, bad)), refl)
  formal_region e (inr (inr (inl (is, far)))) f = let two : is_formal OutOfRange ≡ true = sym (ap is_formal is) ∙ f in absurd (cc)
  formal_region e (inr (inr (inr (is, long)))) f = let two : is_formal TooLong ≡ true = sym (ap is_formal is) ∙ f in absurd (cc)

  pub region_waits : (e : Refusal) → IsRegionRefused r e → is_formal e ≡ false → IsFormRefusal (Region r) desk None
  region_waits e (inl (is, points)) f = let two : is_formal BadSyntax ≡ false = sym (ap is_formal is) ∙ f in absurd (cc)
  region_waits e (inr (inl (is, bad))) f = let two : is_formal BadRegion ≡ false = sym (ap is_formal is) ∙ f in absurd (cc)
  region_waits e (inr (inr (inl (is, far)))) f = (Some OutOfRange, inr (inr (inl (refl, far))), refl)
  region_waits e (inr (inr (inr (is, long)))) f = (Some TooLong, inr (inr (inr (refl, long))), refl)
