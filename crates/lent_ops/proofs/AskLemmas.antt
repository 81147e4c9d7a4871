-- Regions that calls ask for: judged, and told.
use Rattle.std.proofs.Common.{◌≡◌, ◌⊎◌, inl, inr, ℕ, Bool, true, false, ◌&&◌, List, Some, refl, sym, subst}
use Rattle.tb_geom.specs.declared.refusal.Refusal.{Refusal}
use Rattle.tb_geom.specs.declared.refusal.Refusal.TheVariants.{NoMemory}
use Rattle.region_bytes.specs.Bytes.{IsRegionBytes}
use Rattle.region_bytes.specs.Text.{pixels_of}
use Rattle.pixel_rows.specs.Told.{AreRegionBytes, IsNotTold}
use Rattle.lent_ops.specs.declared.region_ref.RegionRef.{RegionRef}
use Rattle.lent_ops.specs.Asked.{IsGoodRegion, IsRegionRefused, asked_holds, said_holds}
use Rattle.lent_ops.specs.OpRefs.{HasForm, IsFormOutOfRange, IsRegion, Stands}
use Rattle.lent_ops.proofs.JudgeLemmas.{formed}
use Rattle.lent_ops.proofs.SaidPixels.{region_is}

-- both are regions, where both are in range
pub both_regions : (x y : List ℕ) (a b : Bool) → Stands (Some x) a → Stands (Some y) b → (a && b) ≡ true → IsRegion x × IsRegion y
both_regions x y true true one two e = (one, two)
both_regions x y true false one two e = absurd (cc)
both_regions x y false b one two e = absurd (cc)

-- else one of them is far out, and both have the form
pub both_far : (x y : List ℕ) (a b : Bool) → Stands (Some x) a → Stands (Some y) b → (a && b) ≡ false → (HasForm x × HasForm y) × (IsFormOutOfRange x ⊎ IsFormOutOfRange y)
both_far x y true true one two e = absurd (cc)
both_far x y true false one two e = ((formed (Some x) true one, formed (Some y) false two), inr two)
both_far x y false b one two e = ((formed (Some x) false one, formed (Some y) b two), inl one)

-- a region whose pen is one, or the one is far out or the other is none
pub frame_region : (x : List ℕ) (a b : Bool) → Stands (Some x) a → (a && b) ≡ true → IsRegion x × (b ≡ true)
frame_region x true b one e = (one, e)
frame_region x false b one e = absurd (cc)

pub far_or_thick : (x : List ℕ) (a b : Bool) → Stands (Some x) a → (a && b) ≡ false → HasForm x × (IsFormOutOfRange x ⊎ (b ≡ false))
far_or_thick x true b one e = (formed (Some x) true one, inr e)
far_or_thick x false b one e = (formed (Some x) false one, inl one)

-- the bytes of a region are told of it
pub told_itself : (bytes : List ℕ) (r : IsRegion bytes) → IsRegionBytes bytes (pixels_of bytes)
told_itself bytes (s, is) = rw (sym (region_is bytes s is)) is

pub are_told : (bytes copy : List ℕ) → IsRegion bytes → copy ≡ bytes → AreRegionBytes (said_holds bytes) copy
are_told bytes copy r same = rw same (pixels_of bytes, (λ p. refl), told_itself bytes r)

-- and they are not too long
pub want_of_memory : (bytes : List ℕ) (e : Refusal) → IsRegion bytes → e ≡ NoMemory → IsNotTold (said_holds bytes) e
want_of_memory bytes e r is = inr (is, (pixels_of bytes, (λ p. refl), (bytes, told_itself bytes r)))

-- ---- a region that is good is told, or refused for its size or for want of memory

abbrev pub IsTold : RegionRef → List ℕ → Type 0
IsTold r bytes = IsGoodRegion r × AreRegionBytes (asked_holds r) bytes

abbrev pub IsUntold : RegionRef → Refusal → Type 0
IsUntold r e = IsRegionRefused r e ⊎ (IsGoodRegion r × IsNotTold (asked_holds r) e)

pub told_of : (r q : RegionRef) (bytes : List ℕ) → r ≡ q → IsGoodRegion r → AreRegionBytes (asked_holds q) bytes → IsTold r bytes
told_of r q bytes is good told = (good, subst (λ x. AreRegionBytes (asked_holds x) bytes) (sym is) told)

pub untold_of : (r q : RegionRef) (e : Refusal) → r ≡ q → IsGoodRegion r → IsNotTold (asked_holds q) e → IsUntold r e
untold_of r q e is good why = inr (good, subst (λ x. IsNotTold (asked_holds x) e) (sym is) why)
