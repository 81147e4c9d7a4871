-- What a window's definition is, seen from outside.
use Rattle.std.specs.Prelude.{◌≡◌, ℕ, Bool, true, false, ◌&&◌, List}
use Rattle.tb_geom.specs.declared.point.Point.{Point}
use Rattle.tb_geom.specs.declared.rect.Rect.{Rect}
use Rattle.tb_geom.specs.Points.{PixelSet}
use Rattle.tb_geom.specs.Rects.{rect_holds, in_plane, is_in_range}
use Rattle.def_iface.specs.declared.size.Size.{Size}
use Rattle.def_iface.specs.declared.window_def.Stage.{Stage}
use Rattle.def_iface.specs.declared.window_def.Stage.TheVariants.{Live}
use Rattle.def_iface.specs.declared.window_def.Hit.{Hit}
use Rattle.def_iface.specs.declared.window_def.WindowChange.{WindowChange}
use Rattle.def_iface.specs.declared.window_def.WindowChange.TheVariants.{Resized}
use Rattle.def_iface.specs.Sizes.{is_size}
use Rattle.def_iface.specs.WindowNews.{WindowNews, AllWindowNews, no_news, told_all}
use Rattle.def_iface.specs.Slots.{LoanOf}

-- A definition as a value: its stage, the size that it was told, its regions, their box and the lines of its outline as
-- functions of the size alone, its picture in a font, which is the list of its bytes, which part of the window a point
-- of the structure lies in, and the pixels that the damage may have that it answers to some news; points are local to the
-- window.
pub record WindowDefinition : Type 0 where
  pub stage : Stage
  pub size : Size
  pub structure : Size → PixelSet
  pub content : Size → PixelSet
  pub bounds : Size → Rect
  pub grow_lines : Size → List Rect
  pub picture : WindowNews → List ℕ → PixelSet
  pub hit : WindowNews → Point → Hit
  pub damage : WindowNews → PixelSet

-- a definition that is out of its slot, and the number of that slot
abbrev pub WindowLoan : Type 0
WindowLoan = LoanOf WindowDefinition

-- the regions, their box and the lines answer each size as before
pub record SameRegions (old new : WindowDefinition) : Type 0 where
  pub structure : new.structure ≡ old.structure
  pub content : new.content ≡ old.content
  pub bounds : new.bounds ≡ old.bounds
  pub lines : new.grow_lines ≡ old.grow_lines

-- a window may have this size: it lies in 1..16383, and the structure's sides in the range of coordinates
abbrev pub is_fitting : WindowDefinition → Size → Bool
is_fitting d s = is_size s && is_in_range (d.bounds s)

-- the size after a change: no other change touches it
abbrev pub size_after : WindowChange → Size → Size
size_after (Resized s) old = s
size_after _ old = old

-- in every font, the pictures are equal outside the damage, as far as coordinates go
abbrev pub IsDamage : Rect → WindowDefinition → WindowDefinition → Type 0
IsDamage damage old new =
    (font : List ℕ) (p : Point) → in_plane p ≡ true → rect_holds damage p ≡ false → new.picture no_news font p ≡ old.picture no_news font p

-- the set lies within the other
abbrev pub IsWithin : PixelSet → PixelSet → Type 0
IsWithin s t = (p : Point) → s p ≡ true → t p ≡ true

-- it was told something, which comes before all that it is told from here on: whatever that is, it shows and is hit as the
-- old one that is told both
pub record WindowHears (news : WindowNews → WindowNews) (old new : WindowDefinition) : Type 0 where
  pub picture : (n : WindowNews) (font : List ℕ) (p : Point) → new.picture n font p ≡ old.picture (news n) font p
  pub hit : (n : WindowNews) (p : Point) → new.hit n p ≡ old.hit (news n) p

-- it has the size that it was told, and answers as the old one, whatever it is told from here on
pub record SameLook (old new : WindowDefinition) : Type 0 where
  pub size : new.size ≡ old.size
  pub regions : SameRegions old new
  pub look : WindowHears (λ n. n) old new

-- what a fresh definition is once it was made live and told all of this
pub record IsBegun (all : AllWindowNews) (old new : WindowDefinition) : Type 0 where
  pub live : new.stage ≡ Live
  pub told : new.size ≡ all.size
  pub regions : SameRegions old new
  pub heard : WindowHears (told_all all) old new

-- the definition goes by all of this: told it again, it shows and is hit as it does anyhow
abbrev pub WindowGoesBy : AllWindowNews → WindowDefinition → Type 0
WindowGoesBy all d = WindowHears (told_all all) d d
