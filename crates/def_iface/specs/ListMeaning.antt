-- What a list's definition is, seen from outside, and what it is told.
use Rattle.std.specs.Prelude.{◌≡◌, ℕ, Bool, true, false, not, ◌&&◌, List, Option, None, Some, if◌then◌else◌}
use Rattle.std.specs.Option.{unwrap_or}
use Rattle.tb_geom.specs.declared.point.Point.{Point}
use Rattle.tb_geom.specs.declared.rect.Rect.{Rect}
use Rattle.tb_geom.specs.Points.{PixelSet}
use Rattle.tb_geom.specs.Rects.{rect_holds, in_plane}
use Rattle.def_iface.specs.declared.size.Size.{Size}
use Rattle.def_iface.specs.declared.window_def.Stage.{Stage}
use Rattle.def_iface.specs.declared.window_def.Stage.TheVariants.{Live}
use Rattle.def_iface.specs.declared.list_def.ListChange.{ListChange}
use Rattle.def_iface.specs.declared.list_def.ListChange.TheVariants.{Resized, NilHilited}
use Rattle.def_iface.specs.Slots.{LoanOf}

-- of each thing that a list's definition can be told what it was told last, if it was: the size of the list's cells, and
-- whether an empty one of them is highlighted where it is selected
pub record ListNews : Type 0 where
  pub size : Option Size
  pub nil_hilited : Option Bool

-- it is told nothing
abbrev pub no_list_news : ListNews
no_list_news = record { size = None; nil_hilited = None }

-- it is told of the change, and then the rest: what comes later counts
abbrev pub told_list : ListChange → ListNews → ListNews
told_list (Resized s) n = record n { size = Some (unwrap_or n.size s) }
told_list (NilHilited b) n = record n { nil_hilited = Some (unwrap_or n.nil_hilited b) }

-- it is told both, and then the rest
abbrev pub told_all_of_list : Size → Bool → ListNews → ListNews
told_all_of_list size hilited n = record { size = Some (unwrap_or n.size size); nil_hilited = Some (unwrap_or n.nil_hilited hilited) }

-- A definition as a value: its stage, the size of a cell that it was told, and of a cell that holds some bytes, in a font,
-- which is the list of its bytes, its picture where it is not selected, and its highlight: the pixels that are inverted where
-- it is selected. Points are local to the cell.
pub record ListDefinition : Type 0 where
  pub stage : Stage
  pub size : Size
  pub picture : ListNews → List ℕ → List ℕ → PixelSet
  pub highlight : ListNews → List ℕ → List ℕ → PixelSet

-- a definition that is out of its slot, and the number of that slot
abbrev pub ListLoan : Type 0
ListLoan = LoanOf ListDefinition

-- what a cell shows: selected is plain xor highlight
abbrev pub cell_bit : ListDefinition → Bool → List ℕ → List ℕ → PixelSet
cell_bit d selected font bytes p =
    if selected && d.highlight no_list_news font bytes p then not (d.picture no_list_news font bytes p) else d.picture no_list_news font bytes p

-- the size after a change: no other change touches it
abbrev pub cell_size_after : ListChange → Size → Size
cell_size_after (Resized s) old = s
cell_size_after (NilHilited b) old = old

-- in every font and whatever a cell holds, pictures and highlights are equal outside the damage, as far as coordinates go
pub record IsListDamage (damage : Rect) (old new : ListDefinition) : Type 0 where
  pub picture : (font bytes : List ℕ) (p : Point) → in_plane p ≡ true → rect_holds damage p ≡ false
      → new.picture no_list_news font bytes p ≡ old.picture no_list_news font bytes p
  pub highlight : (font bytes : List ℕ) (p : Point) → in_plane p ≡ true → rect_holds damage p ≡ false
      → new.highlight no_list_news font bytes p ≡ old.highlight no_list_news font bytes p

-- it was told something, which comes before all that it is told from here on: whatever that is, it answers as the old one
-- that is told both
pub record ListHears (news : ListNews → ListNews) (old new : ListDefinition) : Type 0 where
  pub picture : (n : ListNews) (font bytes : List ℕ) (p : Point) → new.picture n font bytes p ≡ old.picture (news n) font bytes p
  pub highlight : (n : ListNews) (font bytes : List ℕ) (p : Point) → new.highlight n font bytes p ≡ old.highlight (news n) font bytes p

-- it has the size that it was told, and answers as the old one, whatever it is told from here on
pub record SameListLook (old new : ListDefinition) : Type 0 where
  pub size : new.size ≡ old.size
  pub look : ListHears (λ n. n) old new

-- what a fresh definition is once it was made live and told both
pub record IsListBegun (size : Size) (hilited : Bool) (old new : ListDefinition) : Type 0 where
  pub live : new.stage ≡ Live
  pub told : new.size ≡ size
  pub heard : ListHears (told_all_of_list size hilited) old new

-- the definition goes by both: told them again, it answers as it does anyhow
abbrev pub ListGoesBy : Size → Bool → ListDefinition → Type 0
ListGoesBy size hilited d = ListHears (told_all_of_list size hilited) d d
