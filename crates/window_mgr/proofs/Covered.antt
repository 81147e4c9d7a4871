-- What the layers in front of a window's picture have of its content on the screen.
use Rattle.std.proofs.Common.{◌≡◌, ℕ, zero, suc, ◌<◌, Bool, true, false, not, ◌&&◌, List, [], ◌∷◌, length, map, Some, refl, sym, ap, ◌∙◌, subst}
use Rattle.std.specs.Prelude.{slice_get}
use Rattle.std.proofs.lemmas.Option.{slice_get-get_or, slice_get-map}
use Rattle.std.specs.Option.{option_map}
use Rattle.tb_geom.specs.declared.point.Point.{Point}
use Rattle.tb_geom.specs.Points.{minus}
use Rattle.tb_geom.specs.Pixels.{Pixels, holds}
use Rattle.def_iface.specs.Slots.{TakenBox}
use Rattle.desk_layers.specs.declared.part.Part.{Part}
use Rattle.desk_layers.specs.declared.part.Part.TheVariants.{Picture}
use Rattle.def_iface.specs.WindowMeaning.{WindowLoan}
use Rattle.def_iface.specs.WindowSlots.{WindowSlot}
use Rattle.desk_layers.specs.Desk as layers
use Rattle.desk_layers.specs.Desk.{same_part}
use Rattle.desk_layers.specs.Owner.{Owner, owner, same_owner}
use Rattle.desk_layers.specs.Owner.Owner.{Desktop, Bar, Frame, Content}
use Rattle.desk_layers.proofs.Owning.{same_number}
use Rattle.window_list.specs.Holders.{part_at, is_covered}
use Rattle.window_list.proofs.Parts.{covered_is}
use Rattle.window_list.specs.declared.window.Window.{Window}
use Rattle.vis_update.specs.Records.{WindowRecord, Look, record_of, layered_window}
use Rattle.vis_update.specs.Areas.{is_content_of}
use Rattle.vis_update.specs.Contents.{IsCovered}
use Rattle.vis_update.proofs.LayerOwners.{owner_of_content}
use Rattle.window_mgr.specs.declared.manager.WindowManager.{WindowManager}
use Rattle.window_mgr.specs.Edits.{IsWindowAt}
use Rattle.window_mgr.specs.Finding.{record_with}
use Rattle.window_mgr.specs.FullDesk.{FullDesk, layered_desk, look_of}
use Rattle.window_mgr.specs.Records.{desk_of, look_on}
use Rattle.window_paint.specs.Hidden.{is_hidden}
use Rattle.window_mgr.specs.Whole.{IsWholeManager}
use Rattle.window_mgr.proofs.FindLemmas.{record_at}
use Rattle.window_mgr.proofs.KeptWindows.{found_by_serial}
use Rattle.window_mgr.proofs.LayerParts.{are_apart, lies_in}

-- content of a window that owns a pixel is the layer that the window has there
pub layer_there : (desk : FullDesk) (w : WindowRecord) (p : Point) → layers.IsDesk (layered_desk desk) → record_with w.serial desk.windows ≡ Some w → is_content_of w.serial (owner (layered_desk desk) p) ≡ true → owner (layered_desk desk) p ≡ Content w.serial (part_at w.layers (minus p w.place))
layer_there desk w p distinct there its =
    let found = owner_of_content (look_of desk) (layered_desk desk) desk.windows w.serial p refl its in
    let among = found.among in
    let one : Some found.window ≡ Some w = sym (found_by_serial (look_of desk) desk.windows distinct found.window among.0 among.1 among.2) ∙ ap (λ n. record_with n desk.windows) found.serial_is ∙ there in
    let same : found.window ≡ w = cc in
    found.owner_is ∙ (λ k. Content w.serial (part_at (same k).layers (minus p (same k).place)))

-- what is no content of a window is no part of it
pub no_part : (s : ℕ) (part : Part) (o : Owner) → is_content_of s o ≡ false → same_owner o (Content s part) ≡ false
no_part s part Desktop e = refl
no_part s part Bar e = refl
no_part s part (Frame t) e = refl
no_part s part (Content t other) e = ap (λ b. b && same_part other part) e

-- the layers of a window of a desk are apart
pub parts_at : (look : Look) (ws : List WindowRecord) (i : ℕ) (v : WindowRecord) → layers.AreWindows (map (layered_window look) ws) → slice_get ws i ≡ Some v → layers.AreParts (layered_window look v).layers
parts_at look [] i v distinct there = absurd (cc)
parts_at look (w ∷ ws) zero v distinct there = let same : w ≡ v = cc in subst (λ x. layers.AreParts (layered_window look x).layers) same distinct.1.0
parts_at look (w ∷ ws) (suc i) v distinct there = parts_at look ws i v distinct.1.1 there

-- so it is the picture where no layer in front of that has the pixel
pub is_picture : (desk : FullDesk) (w : WindowRecord) (p : Point) → layers.IsDesk (layered_desk desk) → record_with w.serial desk.windows ≡ Some w → layers.AreParts (layered_window (look_of desk) w).layers → is_content_of w.serial (owner (layered_desk desk) p) ≡ true
    → is_covered w.layers (minus p w.place) ≡ not (same_owner (owner (layered_desk desk) p) (Content w.serial Picture))
is_picture desk w p distinct there apart its =
    covered_is w.layers (minus p w.place) (are_apart (look_of desk) w apart)
    ∙ ap not (ap (λ b. b && same_part (part_at w.layers (minus p w.place)) Picture) (sym (same_number w.serial)) ∙ ap (λ o. same_owner o (Content w.serial Picture)) (sym (layer_there desk w p distinct there its)))

module _ {V : Type 0} {H : V → Type 0} (loan : TakenBox V H → WindowLoan) (t : WindowManager V H) (slots : List WindowSlot) (whole : IsWholeManager loan t slots) (at : ℕ) (low : at < length t.windows.records.items) (w : Window V H) (there : IsWindowAt t.windows.records.items at w) where
  abbrev desk : FullDesk
  desk = desk_of loan t slots

  pub record_there : slice_get desk.windows at ≡ Some (record_of loan w)
  record_there = slice_get-map (record_of loan) t.windows.records.items at ∙ ap (option_map (record_of loan)) (slice_get-get_or t.windows.records.items at w low ∙ ap Some (sym there))

  -- a pixel of its content is hidden where it is not the picture's
  pub hidden_is : (p : Point) → is_content_of w.serial (owner (layered_desk desk) p) ≡ true → is_hidden w p ≡ not (same_owner (owner (layered_desk desk) p) (Content w.serial Picture))
  hidden_is p its =
      ap (λ place. is_covered w.layers.layers (minus p place)) (lies_in t.windows.records.items at w low there whole.layers)
      ∙ is_picture desk (record_of loan w) p whole.sound.distinct (record_at (look_on t) desk.windows at (record_of loan w) whole.sound.distinct record_there)
      (parts_at (look_on t) desk.windows at (record_of loan w) whole.sound.distinct record_there) its

  -- what its layers cover is what of its content is not the picture
  pub covered_so : (covered : Pixels) → ((p : Point) → holds covered p ≡ is_hidden w p) → IsCovered (layered_desk desk) w.serial covered
  covered_so covered has p on its = has p ∙ hidden_is p its

  -- what is shown of its content and not hidden is its picture
  pub picture_is : (p : Point) → (is_content_of w.serial (owner (layered_desk desk) p) && not (is_hidden w p)) ≡ same_owner (owner (layered_desk desk) p) (Content w.serial Picture)
  picture_is p = by_content (is_content_of w.serial (owner (layered_desk desk) p)) refl
    where
      twice : (b : Bool) → not (not b) ≡ b
      twice true = refl
      twice false = refl

      by_content : (b : Bool) → is_content_of w.serial (owner (layered_desk desk) p) ≡ b → (b && not (is_hidden w p)) ≡ same_owner (owner (layered_desk desk) p) (Content w.serial Picture)
      by_content true e = ap not (hidden_is p e) ∙ twice (same_owner (owner (layered_desk desk) p) (Content w.serial Picture))
      by_content false e = sym (no_part w.serial Picture (owner (layered_desk desk) p) e)
