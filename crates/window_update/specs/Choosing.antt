-- Kinds of layers of a window's content that are drawn, and what they leave of its update region.
use Rattle.std.specs.Prelude.{◌≡◌, ℕ, Bool, true, false, ◌==◌, ◌&&◌, not}
use Rattle.tb_geom.specs.declared.point.Point.{Point}
use Rattle.tb_geom.specs.Points.{PixelSet, minus}
use Rattle.tb_geom.specs.Pixels.{Pixels, holds}
use Rattle.desk_layers.specs.declared.part.Part.{Part}
use Rattle.desk_layers.specs.declared.part.Part.TheVariants as part
use Rattle.desk_layers.specs.Desk.{LayeredDesk, on_screen}
use Rattle.desk_layers.specs.Owner.{Owner, owner}
use Rattle.desk_layers.specs.Owner.Owner.{Content}
use Rattle.desk_call.specs.declared.update.LayerKind.{LayerKind}
use Rattle.desk_call.specs.declared.update.LayerKind.TheVariants.{Picture, Texts, Lists, Controls}
use Rattle.window_list.specs.Holders.{part_at}
use Rattle.vis_update.specs.Areas.{is_content_of}
use Rattle.window_list.specs.declared.window.Window.{Window}
use Rattle.window_update.specs.declared.choices.Kinds.{Kinds}
use Rattle.window_update.specs.declared.choices.Choices.{Choices}

-- ---- choices of kinds

abbrev pub no_kinds : Kinds
no_kinds = record { picture = false; texts = false; lists = false; controls = false }

abbrev pub has_kind : Kinds → LayerKind → Bool
has_kind k Picture = k.picture
has_kind k Texts = k.texts
has_kind k Lists = k.lists
has_kind k Controls = k.controls

-- the choice with this kind too
abbrev pub with_kind : LayerKind → Kinds → Kinds
with_kind Picture k = record k { picture = true }
with_kind Texts k = record k { texts = true }
with_kind Lists k = record k { lists = true }
with_kind Controls k = record k { controls = true }

-- a choice has a kind if another has it
abbrev pub if_there : Bool → Bool → Bool
if_there true there = there
if_there false there = true

-- the second choice has all kinds of the first, and more
abbrev pub IsFurther : Kinds → Kinds → Type 0
IsFurther few many =
    ((if_there few.picture many.picture && (if_there few.texts many.texts && (if_there few.lists many.lists && if_there few.controls many.controls))) ≡ true)
    × (many ≡ few → ⊥)

-- the part is of a kind of the choice
abbrev pub is_chosen : Kinds → Part → Bool
is_chosen k part.Picture = k.picture
is_chosen k (part.Text n) = k.texts
is_chosen k (part.List n) = k.lists
is_chosen k (part.Control n) = k.controls

-- the owner is a content layer of this window of such a kind
abbrev pub is_chosen_of : Kinds → ℕ → Owner → Bool
is_chosen_of k s (Content t part) = t == s && is_chosen k part
is_chosen_of k s _ = false

-- ---- what is left

-- the pixels kept as what is left once these kinds are drawn. The whole, which is left where none is, stands in the
-- window's area
abbrev pub left_by : Choices → Bool → Bool → Bool → Bool → PixelSet
left_by c false false false false p = false
left_by c true false false false p = holds c.picture.rest p
left_by c false true false false p = holds c.texts.rest p
left_by c false false true false p = holds c.lists.rest p
left_by c false false false true p = holds c.controls.rest p
left_by c true true false false p = holds c.with_texts.rest p
left_by c true false true false p = holds c.with_lists.rest p
left_by c true false false true p = holds c.with_controls.rest p
left_by c false true true false p = holds c.with_controls.own p
left_by c false true false true p = holds c.with_lists.own p
left_by c false false true true p = holds c.with_texts.own p
left_by c false true true true p = holds c.picture.own p
left_by c true false true true p = holds c.texts.own p
left_by c true true false true p = holds c.lists.own p
left_by c true true true false p = holds c.controls.own p
left_by c true true true true p = false

abbrev pub left_for : Choices → Kinds → PixelSet
left_for c k = left_by c k.picture k.texts k.lists k.controls

-- nothing is drawn yet of this update region of a window, and for each choice what is left is kept
pub record AreChoicesOf {V : Type 0} {H : V → Type 0} (w : Window V H) (update : Pixels) (c : Choices) : Type 0 where
  pub drawn : c.drawn ≡ no_kinds
  pub left : (k : Kinds) → IsFurther no_kinds k → (p : Point)
      → left_for c k p ≡ (holds update p && not (is_chosen k (part_at w.layers.layers (minus p w.layers.place))))

-- in the update of this window: nothing is stale of the kinds that were drawn, and for each choice that has these and
-- more, what is left is kept: what of the update set belongs to no kind of it
pub record AreChoices (s : ℕ) (desk : LayeredDesk) (stale : PixelSet) (c : Choices) : Type 0 where
  pub fresh : (p : Point) → on_screen desk p ≡ true → is_chosen_of c.drawn s (owner desk p) ≡ true → stale p ≡ false
  pub left : (k : Kinds) → IsFurther c.drawn k → (p : Point) → let o = owner desk p in
      left_for c k p ≡ ((on_screen desk p && is_content_of s o) && (stale p && not (is_chosen_of k s o)))
