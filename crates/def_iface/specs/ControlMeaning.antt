-- What a control's definition is, seen from outside.
use Rattle.std.specs.Prelude.{◌≡◌, ℕ, Bool, true, false, ◌&&◌, List, Option, ℤ, pos, int_le}
use Rattle.tb_geom.specs.declared.point.Point.{Point}
use Rattle.tb_geom.specs.declared.rect.Rect.{Rect}
use Rattle.tb_geom.specs.Points.{PixelSet}
use Rattle.tb_geom.specs.Rects.{rect_holds, in_plane, is_in_range}
use Rattle.control_values.specs.declared.part.ControlPart.{ControlPart}
use Rattle.def_iface.specs.declared.size.Size.{Size}
use Rattle.def_iface.specs.declared.window_def.Stage.{Stage}
use Rattle.def_iface.specs.declared.window_def.Stage.TheVariants.{Live}
use Rattle.def_iface.specs.declared.control_def.ControlChange.{ControlChange}
use Rattle.def_iface.specs.declared.control_def.ControlChange.TheVariants.{Resized}
use Rattle.def_iface.specs.ControlNews.{ControlNews, AllControlNews, no_control_news, told_all_of_control}
use Rattle.def_iface.specs.Slots.{LoanOf}

-- A definition as a value: its stage, the size that it was told, its region and the box of that as functions of the size
-- alone, its picture in a font, which is the list of its bytes, which part of the control a point of the region lies in, the
-- value that the control has once its thumb was dragged from one point to another, and the pixels that the damage may have
-- that it answers, told some news, to some more; points are local to the control.
pub record ControlDefinition : Type 0 where
  pub stage : Stage
  pub size : Size
  pub region : Size → PixelSet
  pub bounds : Size → Rect
  pub picture : ControlNews → List ℕ → PixelSet
  pub hit : ControlNews → Point → Option ControlPart
  pub thumb_value : ControlNews → Point → Point → ℤ
  pub damage : (told more : ControlNews) → PixelSet

-- a definition that is out of its slot, and the number of that slot
abbrev pub ControlLoan : Type 0
ControlLoan = LoanOf ControlDefinition

-- the region and its box answer each size as before
pub record SameControlRegions (old new : ControlDefinition) : Type 0 where
  pub region : new.region ≡ old.region
  pub bounds : new.bounds ≡ old.bounds

-- whether a width or a height lies in 1..1024
abbrev pub is_control_extent : ℤ → Bool
is_control_extent n = int_le (pos 1) n && int_le n (pos 1024)

-- whether both do
abbrev pub is_control_size : Size → Bool
is_control_size s = is_control_extent s.width && is_control_extent s.height

-- a control may have this size: it lies in 1..1024, and the region's sides in the range of coordinates
abbrev pub is_fitting_control : ControlDefinition → Size → Bool
is_fitting_control d s = is_control_size s && is_in_range (d.bounds s)

-- the size after a change: no other change touches it
abbrev pub control_size_after : ControlChange → Size → Size
control_size_after (Resized s) old = s
control_size_after _ old = old

-- in every font, the pictures are equal outside the damage, as far as coordinates go
abbrev pub IsControlDamage : Rect → ControlDefinition → ControlDefinition → Type 0
IsControlDamage damage old new =
    (font : List ℕ) (p : Point) → in_plane p ≡ true → rect_holds damage p ≡ false
    → new.picture no_control_news font p ≡ old.picture no_control_news font p

-- it was told something, which comes before all that it is told from here on: whatever that is, it answers as the old one
-- that is told both
pub record ControlHears (news : ControlNews → ControlNews) (old new : ControlDefinition) : Type 0 where
  pub picture : (n : ControlNews) (font : List ℕ) (p : Point) → new.picture n font p ≡ old.picture (news n) font p
  pub hit : (n : ControlNews) (p : Point) → new.hit n p ≡ old.hit (news n) p
  pub thumb_value : (n : ControlNews) (p q : Point) → new.thumb_value n p q ≡ old.thumb_value (news n) p q
  pub damage : (n more : ControlNews) (p : Point) → new.damage n more p ≡ old.damage (news n) more p

-- it has the size that it was told, and answers as the old one, whatever it is told from here on
pub record SameControlLook (old new : ControlDefinition) : Type 0 where
  pub size : new.size ≡ old.size
  pub regions : SameControlRegions old new
  pub look : ControlHears (λ n. n) old new

-- what a fresh definition is once it was made live and told all of this
pub record IsControlBegun (all : AllControlNews) (old new : ControlDefinition) : Type 0 where
  pub live : new.stage ≡ Live
  pub told : new.size ≡ all.size
  pub regions : SameControlRegions old new
  pub heard : ControlHears (told_all_of_control all) old new

-- the definition goes by all of this: told it again, it answers as it does anyhow
abbrev pub ControlGoesBy : AllControlNews → ControlDefinition → Type 0
ControlGoesBy all d = ControlHears (told_all_of_control all) d d
