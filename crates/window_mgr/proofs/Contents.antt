-- What the content layers of a window have of the screen, and what they are to show there.
use Rattle.std.proofs.Common.{◌≡◌, ℕ, ◌<◌, ◌==◌, ◌&&◌, true, false, if◌then◌else◌, List, length, Some, refl, sym, ap, ◌∙◌}
use Rattle.std.proofs.lemmas.Bool.{false≢true, and_parts}
use Rattle.tb_geom.specs.declared.point.Point.{Point}
use Rattle.tb_geom.specs.Points.{PixelSet, minus}
use Rattle.draw_port.specs.Ops.{picture_bit}
use Rattle.desk_layers.specs.declared.part.Part.{Part}
use Rattle.desk_layers.specs.declared.part.Part.TheVariants as part
use Rattle.def_iface.specs.Slots.{TakenBox}
use Rattle.def_iface.specs.WindowMeaning.{WindowLoan}
use Rattle.def_iface.specs.WindowSlots.{WindowSlot}
use Rattle.desk_layers.specs.Desk as layers
use Rattle.desk_layers.specs.Desk.{LayeredDesk, same_part}
use Rattle.desk_layers.specs.Owner.{Owner, owner, own_bit, content_bit}
use Rattle.desk_layers.specs.Owner.Owner.{Desktop, Bar, Frame, Content}
use Rattle.desk_layers.specs.Scratch.{scratch}
use Rattle.desk_layers.proofs.Owning.{same_number}
use Rattle.desk_layers.proofs.Painting.{scratch_is_owners}
use Rattle.desk_call.specs.declared.update.LayerKind.{LayerKind}
use Rattle.window_list.specs.Holders.{part_at, ArePartsApart}
use Rattle.vis_update.specs.Areas.{is_content_of}
use Rattle.vis_update.specs.Records.{Look, layered_window, record_of}
use Rattle.window_list.specs.declared.window.Window.{Window}
use Rattle.window_paint.specs.Shown.{part_shown, content_shown}
use Rattle.window_mgr.specs.declared.manager.WindowManager.{WindowManager}
use Rattle.window_mgr.specs.Edits.{IsWindowAt}
use Rattle.window_mgr.specs.FullDesk.{FullDesk, layered_desk, look_of}
use Rattle.window_mgr.specs.Records.{desk_of, desk_showing}
use Rattle.window_paint.specs.Kinds.{is_of}
use Rattle.window_mgr.specs.Updating.{is_of_kind}
use Rattle.window_mgr.specs.Whole.{IsWholeManager}
use Rattle.window_mgr.proofs.Covered.{layer_there, parts_at, record_there}
use Rattle.window_mgr.proofs.FindLemmas.{record_at}
use Rattle.window_mgr.proofs.LayerParts.{are_apart, lies_in, part_bit_is}
use Rattle.window_mgr.proofs.Remarked as remarked
use Rattle.window_mgr.proofs.Showing.{distinct_showing}

-- ---- kinds of layers

-- what is no content of a window is of no kind of it
pub no_kind : (kind : LayerKind) (s : ℕ) (o : Owner) → is_content_of s o ≡ false → is_of_kind kind s o ≡ false
no_kind kind s Desktop e = refl
no_kind kind s Bar e = refl
no_kind kind s (Frame t) e = refl
no_kind kind s (Content t a) e = ap (λ b. b && is_of kind a) e

-- what is of a kind of a window is its content
pub kind_content : (kind : LayerKind) (s : ℕ) (o : Owner) → is_of_kind kind s o ≡ true → is_content_of s o ≡ true
kind_content kind s Desktop e = absurd (false≢true e)
kind_content kind s Bar e = absurd (false≢true e)
kind_content kind s (Frame t) e = absurd (false≢true e)
kind_content kind s (Content t a) e = (and_parts (t == s) (is_of kind a) e).0

-- ---- a window of a desk with what its controls and lists show

module _ {V : Type 0} {H : V → Type 0} (loan : TakenBox V H → WindowLoan) (t : WindowManager V H) (slots : List WindowSlot) (whole : IsWholeManager loan t slots) (at : ℕ) (low : at < length t.windows.records.items) (w : Window V H) (there : IsWindowAt t.windows.records.items at w) (shows : List ℕ → Part → PixelSet) where
  abbrev full : FullDesk
  full = desk_showing shows (desk_of loan t slots)

  abbrev desk : LayeredDesk
  desk = layered_desk full

  abbrev look : Look
  look = look_of full

  -- the layers lie where the window does
  pub layers_there : w.layers.place ≡ w.place
  layers_there = lies_in t.windows.records.items at w low there whole.layers

  -- the layer that the window has at a pixel of the screen
  abbrev part_there : Point → Part
  part_there p = part_at w.layers.layers (minus p w.place)

  -- what that shows there
  abbrev shown : PixelSet
  shown p = if same_part (part_there p) part.Picture then picture_bit t.font w.picture (minus (minus p w.place) w.origin) else shows t.font (part_there p) (minus p w.place)

  content_is : (p : Point) → content_shown t.font (shows t.font) w p ≡ shown p
  content_is p = ap (λ place. part_shown t.font (shows t.font) w (part_at w.layers.layers (minus p place)) p) layers_there ∙ by_part (part_there p)
    where
      by_part : (q : Part) → part_shown t.font (shows t.font) w q p ≡ (if same_part q part.Picture then picture_bit t.font w.picture (minus (minus p w.place) w.origin) else shows t.font q (minus p w.place))
      by_part part.Picture = refl
      by_part (part.Control n) = refl
      by_part (part.List n) = refl
      by_part (part.Text n) = refl

  distinct : layers.IsDesk desk
  distinct = distinct_showing shows (desk_of loan t slots) whole.sound.distinct

  apart : layers.AreParts (layered_window look (record_of loan w)).layers
  apart = parts_at look full.windows at (record_of loan w) distinct (record_there loan t slots whole at low w there)

  pub layers_apart : ArePartsApart w.layers.layers
  layers_apart = are_apart look (record_of loan w) apart

  -- a pixel of the content belongs to the layer there
  pub owner_there : (p : Point) → is_content_of w.serial (owner desk p) ≡ true → owner desk p ≡ Content w.serial (part_there p)
  owner_there p its = layer_there full (record_of loan w) p distinct (record_at look full.windows at (record_of loan w) distinct (record_there loan t slots whole at low w there)) its

  -- of which kind that is
  pub kind_is : (kind : LayerKind) (p : Point) → is_content_of w.serial (owner desk p) ≡ true → is_of kind (part_at w.layers.layers (minus p w.layers.place)) ≡ is_of_kind kind w.serial (owner desk p)
  kind_is kind p its =
      ap (λ place. is_of kind (part_at w.layers.layers (minus p place))) layers_there
      ∙ ap (λ b. b && is_of kind (part_there p)) (sym (same_number w.serial))
      ∙ ap (is_of_kind kind w.serial) (sym (owner_there p its))

  shown_is : (p : Point) → is_content_of w.serial (owner desk p) ≡ true → shown p ≡ scratch desk p
  shown_is p its =
      let found : layers.window_of w.serial desk.windows ≡ Some (layered_window look (record_of loan w)) =
      remarked.window_at look full.windows at (record_of loan w) distinct (record_there loan t slots whole at low w there) in
      sym (scratch_is_owners desk p distinct
      ∙ ap (λ o. own_bit desk o p) (owner_there p its)
      ∙ ap (λ v. content_bit v (part_there p) p) found
      ∙ part_bit_is look (record_of loan w) (minus p w.place) apart)

  -- what the content shows is what painting from nothing gives
  pub content_right : (p : Point) → is_content_of w.serial (owner desk p) ≡ true → content_shown t.font (shows t.font) w p ≡ scratch desk p
  content_right p its = content_is p ∙ shown_is p its
