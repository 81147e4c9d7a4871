-- A region that is asked for, told or refused: no window has to do with it.
use Rattle.std.proofs.Common.{◌≡◌, inl, inr, List, ℕ, false, true, None, Some, refl, sym, ap}
use Rattle.lent_ops.specs.declared.region_ref.RegionRef.{RegionRef}
use Rattle.lent_ops.specs.Asked.{asked_holds, IsGoodRegion, IsRegionRefused}
use Rattle.tb_geom.specs.declared.refusal.Refusal.{Refusal}
use Rattle.desk_call.specs.declared.window.WindowCall.TheVariants.{Region}
use Rattle.window_mgr.specs.FullDesk.{FullState}
use Rattle.window_mgr.specs.Refused.{IsRefusal}
use Rattle.window_mgr.specs.Step.{IsCallRefused}
use Rattle.window_mgr.specs.Telling.{AreRegionBytes, IsNotTold}

module _ (r : RegionRef) (state : FullState) where
  pub bad_refused : (e : Refusal) → IsRegionRefused r e → IsCallRefused (Region r) e state
  bad_refused e bad = inl (inl (e, bad, refl))

  module _ (good : IsGoodRegion r) where
    pub told_allowed : (bytes : List ℕ) → AreRegionBytes (asked_holds r) bytes → IsRefusal (Region r) state None
    told_allowed bytes (region, is, written) = inr (good, (false, (region, is, (bytes, written)), refl))

    pub untold_refused : (e : Refusal) → IsNotTold (asked_holds r) e → IsCallRefused (Region r) e state
    untold_refused e (inl (is, long)) = inl (inr (good, (true, long, ap Some (sym is))))
    untold_refused e (inr (is, short)) = inr ((inr (good, (false, short, refl))), (refl, is))
