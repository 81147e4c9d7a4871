-- Definitions in the words of their subject.
use Rattle.std.proofs.Common.{◌≡◌, Bool, true, false, if◌then◌else◌, List, [], ◌∷◌, Some, refl}
use Rattle.std.specs.List.{find}
use Rattle.std.specs.Option.{option_map}
use Rattle.tb_geom.specs.declared.point.Point.{Point}
use Rattle.tb_geom.specs.declared.refusal.Refusal.{Refusal}
use Rattle.desk_layers.specs.Desk.{IsDesk}
use Rattle.desk_layers.specs.Owner.{owner, own_bit}
use Rattle.desk_layers.specs.Scratch.{scratch}
use Rattle.desk_layers.proofs.Painting.{scratch_is_owners}
use Rattle.vis_update.specs.Records.{WindowRecord}
use Rattle.window_mgr.specs.FullDesk.{FullDesk, layered_desk}
use Rattle.window_mgr.specs.Finding.{front_of, is_leading}
use Rattle.tb_geom.specs.Refusals.{first_refusal}

pub scratch_is_owners_on : (desk : FullDesk) (p : Point) → IsDesk (layered_desk desk) → scratch (layered_desk desk) p ≡ own_bit (layered_desk desk) (owner (layered_desk desk) p) p
scratch_is_owners_on desk p distinct = scratch_is_owners (layered_desk desk) p distinct

pub front_is_first : (windows : List WindowRecord) → front_of windows ≡ option_map (λ w. w.serial) (find is_leading windows)
front_is_first [] = refl
front_is_first (w ∷ ws) = by_leading (is_leading w) (front_is_first ws)
  where
    by_leading : (b : Bool) → front_of ws ≡ option_map (λ w. w.serial) (find is_leading ws) → (if b then Some w.serial else front_of ws) ≡ option_map (λ w. w.serial) (if b then Some w else find is_leading ws)
    by_leading true rest = refl
    by_leading false rest = rest

pub refusal_is_first : (refusals : List (Bool × Refusal)) → first_refusal refusals ≡ option_map (λ r. r.1) (find (λ r. r.0) refusals)
refusal_is_first [] = refl
refusal_is_first (r ∷ rs) = by_test r.0 (refusal_is_first rs)
  where
    by_test : (b : Bool) → first_refusal rs ≡ option_map (λ r. r.1) (find (λ r. r.0) rs) → (if b then Some r.1 else first_refusal rs) ≡ option_map (λ r. r.1) (if b then Some r else find (λ r. r.0) rs)
    by_test true rest = refl
    by_test false rest = rest
