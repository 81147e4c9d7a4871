-- Why operations that calls carry are refused.
use Rattle.std.proofs.Common.{◌≡◌, ◌⊎◌, inl, inr, ℕ, Bool, true, false, List, Option, Some, None, IfSome}
use Rattle.region_bytes.proofs.Formed.{region_form}
use Rattle.lent_ops.specs.OpRefs.{has_bytes, is_shape_in_range, region_of, HasForm, IsFormOutOfRange, HasSome, Stands, SomeRegion, IsFarOut}
use Rattle.lent_ops.specs.declared.op_ref.OpRef.{OpRef}

-- the bytes of a region have its form, whether its coordinates are in range or not
pub formed : (given : Option (List ℕ)) (good : Bool) → Stands given good → IfSome given HasForm
formed None good s = tt
formed (Some bytes) true s = (s.1.rows, region_form bytes s.0 s.1)
formed (Some bytes) false s = (s.0, s.1)

leaves : (given : Option (List ℕ)) (good : Bool) → Stands given good → good ≡ false → HasSome given IsFormOutOfRange
leaves given good s e = rw e at s

pub far_out : (op : OpRef) (clip region : Bool) → has_bytes op.shape ≡ true → Stands op.clip clip → Stands (region_of op.shape) region
    → (is_shape_in_range op.shape ≡ false) ⊎ ((clip ≡ false) ⊎ (region ≡ false)) → IsFarOut op
far_out op clip region bytes c r far = record { bytes = bytes; formed = (formed op.clip clip c, formed (region_of op.shape) region r); far = which far }
  where
    which : (is_shape_in_range op.shape ≡ false) ⊎ ((clip ≡ false) ⊎ (region ≡ false)) → (is_shape_in_range op.shape ≡ false) ⊎ SomeRegion IsFormOutOfRange op
    which (inl away) = inl away
    which (inr (inl e)) = inr (inl (leaves op.clip clip c e))
    which (inr (inr e)) = inr (inr (leaves (region_of op.shape) region r e))
