-- Layers that stay within their windows are kept by a call that moves one of these.
use Rattle.std.proofs.Common.{◌≡◌, ℤ, ◌-ℤ◌, List, map, None, Some, Contains, sym, ap, ◌∙◌, arith}
use Rattle.std.proofs.lemmas.Int.{ints}
use Rattle.tb_geom.specs.declared.point.Point.{Point}
use Rattle.tb_geom.specs.Points.{minus}
use Rattle.desk_layers.specs.Desk.{LayeredDesk}
use Rattle.desk_layers.specs.Owner.Owner.{Content}
use Rattle.window_list.specs.Holders.{part_at}
use Rattle.vis_update.specs.declared.plan.Touch.{Touch}
use Rattle.vis_update.specs.Records.{WindowRecord, Look, layered_window}
use Rattle.vis_update.specs.Touches.{way_of, came_from, KeepsLayers}
use Rattle.vis_update.proofs.LayerOwners.{owner_of_content}

-- if the records are those of one window before and after a call, then it has the same layers, and each of its pixels
-- is there the same distance from its place as where it came from
abbrev pub IsKept : Touch → WindowRecord → WindowRecord → Type 0
IsKept t w v = w.serial ≡ v.serial → (v.layers ≡ w.layers) × ((p : Point) → minus (came_from (way_of t v.serial) p) w.place ≡ minus p v.place)

-- a call keeps the layers of a desk where it keeps those of each record
pub keeps_layers : (t : Touch) (look other : Look) (ws vs : List WindowRecord) (before after : LayeredDesk) → before.windows ≡ map (layered_window look) ws → after.windows ≡ map (layered_window other) vs
    → ((w v : WindowRecord) → Contains ws w → Contains vs v → IsKept t w v) → KeepsLayers t before after
keeps_layers t look other ws vs before after were are kept s p its was =
    let new = owner_of_content other after vs s p are its in
    let old = owner_of_content look before ws s (came_from (way_of t s) p) were was in
    let same = kept old.window new.window old.among new.among (old.serial_is ∙ sym new.serial_is) in
    let there : minus (came_from (way_of t s) p) old.window.place ≡ minus p new.window.place = ap (λ n. minus (came_from (way_of t n) p) old.window.place) (sym new.serial_is) ∙ same.1 p in
    old.owner_is ∙ (λ i. Content s (part_at (sym same.0 i) (there i))) ∙ sym new.owner_is

-- ---- records that are kept

-- a window that stays at its place is kept where its content does not move
pub kept_in_place : (t : Touch) (w v : WindowRecord) → v.layers ≡ w.layers → v.place ≡ w.place → way_of t v.serial ≡ None → IsKept t w v
kept_in_place t w v layers place way same = (layers, λ p i. minus (came_from (way i) p) (sym place i))

way_back : (p old new : Point) → minus (minus p (minus new old)) old ≡ minus p new
way_back p old new = λ i. record { h = one p.h old.h new.h i; v = one p.v old.v new.v i }
  where
    one : (a b c : ℤ) → ((a -ℤ (c -ℤ b)) -ℤ b) ≡ (a -ℤ c)
    one a b c = omega (arith, ints)

-- a window that goes to another place is kept where its content moves as far
pub kept_on_its_way : (t : Touch) (w v : WindowRecord) → v.layers ≡ w.layers → way_of t v.serial ≡ Some (minus v.place w.place) → IsKept t w v
kept_on_its_way t w v layers way same = (layers, λ p. ap (λ by. minus (came_from by p) w.place) way ∙ way_back p w.place v.place)
