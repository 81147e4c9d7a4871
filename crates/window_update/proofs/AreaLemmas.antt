-- Areas that were judged.
use Rattle.std.proofs.Common.{◌≡◌, inl, inr, ℕ, Bool, true, false, if◌then◌else◌, List, [], ◌∷◌, Option, None, Some, refl, sym, ap, subst}
use Rattle.tb_geom.specs.declared.refusal.Refusal.{Refusal}
use Rattle.tb_geom.specs.declared.refusal.Refusal.TheVariants.{BadRegion, NoSuchWindow, OutOfRange}
use Rattle.tb_geom.specs.Pixels.{Pixels, holds}
use Rattle.tb_geom.specs.Rects.{is_in_range}
use Rattle.region_bytes.specs.Bytes.{IsRegionBytes}
use Rattle.desk_call.specs.declared.update.AreaRef.{AreaRef}
use Rattle.desk_call.specs.declared.update.AreaRef.TheVariants.{Rect, Region}
use Rattle.tb_geom.specs.Refusals.{first_refusal}
use Rattle.window_mgr.specs.Refused.{is_found}
use Rattle.window_update.specs.Sets.{IsAreaOf, IsAreaJudged}
use Rattle.window_update.specs.UpdateRefusals.{area_form, area_refusals}

-- the region of an area's bytes
pub region_read : (area : AreaRef) (bytes : List ℕ) (r : Pixels) → area ≡ Region bytes → IsRegionBytes bytes r → IsAreaOf area (holds r)
region_read area bytes r is its = subst (λ a. IsAreaOf a (holds r)) (sym is) (r, its, λ p. refl)

-- its bytes are a region's
pub is_read : (area : AreaRef) (bytes : List ℕ) (r : Pixels) → area ≡ Region bytes → IsRegionBytes bytes r → IsAreaJudged area None
is_read area bytes r is its = subst (λ a. IsAreaJudged a None) (sym is) (r, its)

-- an area that is refused, of a window that is there
pub area_refused : (area : AreaRef) (e : Refusal) (missing : Bool) → missing ≡ false → IsAreaJudged area (Some e) → first_refusal (area_refusals (Some e) missing) ≡ Some e
area_refused (Rect r) e missing there judged = by_test (is_in_range r) judged
  where
    by_test : (b : Bool) → (if b then None else Some OutOfRange) ≡ Some e → first_refusal (area_refusals (Some e) missing) ≡ Some e
    by_test true h = absurd (cc)
    by_test false h =
        let same : OutOfRange ≡ e = cc in
        subst (λ f. first_refusal (area_refusals (Some f) missing) ≡ Some f) same (ap (λ b. if b then Some NoSuchWindow else Some OutOfRange) there)
area_refused (Region bytes) e missing there (inl (is, bad)) = subst (λ f. first_refusal (area_refusals (Some f) missing) ≡ Some f) (sym is) refl
area_refused (Region bytes) e missing there (inr (is, bad)) = subst (λ f. first_refusal (area_refusals (Some f) missing) ≡ Some f) (sym is) (ap (λ b. if b then Some NoSuchWindow else Some OutOfRange) there)

-- one that is not, of a window that is there
pub area_accepted : (missing : Bool) → missing ≡ false → first_refusal (area_refusals None missing) ≡ None
area_accepted missing there = ap (λ b. if b then Some NoSuchWindow else None) there

-- what is refused by its form is refused so first
pub form_first : (judged : Option Refusal) (missing : Bool) (e : Refusal) → first_refusal (area_form judged) ≡ Some e → first_refusal (area_refusals judged missing) ≡ Some e
form_first judged missing e first = by_test (is_found BadRegion judged) first
  where
    by_test : (b : Bool) → (if b then Some BadRegion else None) ≡ Some e → (if b then Some BadRegion else first_refusal ((missing, NoSuchWindow) ∷ (is_found OutOfRange judged, OutOfRange) ∷ [])) ≡ Some e
    by_test true h = h
    by_test false h = absurd (cc)

-- then comes a window that is not there
pub missing_next : (judged : Option Refusal) (missing : Bool) → missing ≡ true → first_refusal (area_form judged) ≡ None → first_refusal (area_refusals judged missing) ≡ Some NoSuchWindow
missing_next judged missing gone first = by_test (is_found BadRegion judged) first
  where
    by_test : (b : Bool) → (if b then Some BadRegion else None) ≡ None → (if b then Some BadRegion else first_refusal ((missing, NoSuchWindow) ∷ (is_found OutOfRange judged, OutOfRange) ∷ [])) ≡ Some NoSuchWindow
    by_test true h = absurd (cc)
    by_test false h = ap (λ b. if b then Some NoSuchWindow else first_refusal ((is_found OutOfRange judged, OutOfRange) ∷ [])) gone
