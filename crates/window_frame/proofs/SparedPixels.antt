-- A pixel that an economical call does not write keeps its bit.
use Rattle.std.proofs.Common.{◌≡◌, ◌≢◌, ℕ, Bool, true, false, refl, arith}
use Rattle.tb_geom.specs.declared.point.Point.{Point}
use Rattle.bit_map.specs.Bits.{Bits, bit, count}
use Rattle.desk_layers.specs.Desk.{LayeredDesk, on_screen}
use Rattle.desk_layers.specs.Owner.{Owner, owner, same_owner}
use Rattle.window_mgr.specs.Sparing.{IsSparing, is_frame}

-- a bit that cannot have changed
same_bit : (a b : Bool) → (a ≢ b → ⊥) → a ≡ b
same_bit true true alike = refl
same_bit false false alike = refl
same_bit true false alike = absurd (alike (λ e. absurd (cc e)))
same_bit false true alike = absurd (alike (λ e. absurd (cc e)))

pub spared_pixels_stay : (moves : Owner → Bool) (draws : ℕ → Bool) (before after : LayeredDesk) (old new : Bits) (p : Point)
    → IsSparing moves draws before after old new → on_screen after p ≡ true → is_frame (owner after p) ≡ false
    → same_owner (owner before p) (owner after p) ≡ true → moves (owner after p) ≡ false
    → (count new p ≡ count old p) × (bit new p ≡ bit old p)
spared_pixels_stay moves draws before after old new p sparing on frameless same stays =
    let spared = sparing.spared p on frameless same stays in
    (spared, same_bit (bit new p) (bit old p) (λ ne. let more = sparing.changed p on ne in absurd (omega arith)))
