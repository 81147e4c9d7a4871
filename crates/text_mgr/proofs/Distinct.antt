-- Layers of a window that are told apart, where a text record's layer is changed, taken out, or put behind the others; and the desk.
use Rattle.std.proofs.Common.{◌≡◌, ℕ, ◌==◌, Bool, true, false, cond, List, [], ◌∷◌, length, map, Option, None, Some, refl, sym, ap, ◌∙◌, subst}
use Rattle.std.specs.Prelude.{All}
use Rattle.std.specs.List.{list_any, remove}
use Rattle.std.specs.Option.{option_map_or}
use Rattle.std.proofs.lemmas.Bool.{false≢true}
use Rattle.desk_layers.specs.declared.part.Part.{Part}
use Rattle.desk_layers.specs.declared.part.Part.TheVariants as part
use Rattle.desk_layers.specs.Desk as layers
use Rattle.window_items.specs.Items.{are_before, has_serial, items_of}
use Rattle.window_items.proofs.LawLemmas.{no_others}
use Rattle.window_items.proofs.SerialLemmas.{any_of}
use Rattle.window_list.specs.declared.layer.Layer.{Layer}
use Rattle.window_list.specs.declared.layer.LayerShape.{LayerShape}
use Rattle.window_list.specs.Holders.{ArePartsApart, layer_index}
use Rattle.window_list.specs.LayerChanges.{reshaped}
use Rattle.window_list.proofs.Found.{found_low}
use Rattle.window_list.proofs.Parts.{remove_apart, reshaped_apart}
use Rattle.vis_update.specs.Records.{Look, WindowRecord, layered_window}
use Rattle.vis_update.specs.Relayings.{with_layers_of}
use Rattle.window_mgr.specs.Finding.{record_with}
use Rattle.window_mgr.specs.FullDesk.{FullDesk, layered_desk, look_of}
use Rattle.window_mgr.proofs.LayerParts.{are_apart}
use Rattle.window_mgr.proofs.OtherLayers.{apart_so}
use Rattle.window_mgr.proofs.Showing.{distinct_showing}
use Rattle.control_mgr.proofs.ControlBits.{at_serial}
use Rattle.control_mgr.proofs.LayerIn.{apart_with}
use Rattle.text_mgr.specs.TextDesks.{KeptText}
use Rattle.text_mgr.specs.TextLayers.{AreTextLayersOf, IsLayerOf, with_last, with_shape_of, without_part}
use Rattle.text_mgr.proofs.Layered.{inserted_last, none_named}
use Rattle.text_mgr.proofs.Whole.{AreJoined}

-- ---- the layers of one window

pub shaped_apart : (q : Part) (shape : LayerShape) (ls : List Layer) → ArePartsApart ls → ArePartsApart (with_shape_of q shape ls)
shaped_apart q shape ls apart = by_place (layer_index q ls)
  where
    by_place : (o : Option ℕ) → ArePartsApart (option_map_or (λ i. reshaped shape i ls) o ls)
    by_place None = apart
    by_place (Some i) = reshaped_apart shape i ls apart

pub without_apart : (q : Part) (ls : List Layer) → ArePartsApart ls → ArePartsApart (without_part q ls)
without_apart q ls apart = by_place (layer_index q ls) refl
  where
    by_place : (o : Option ℕ) → layer_index q ls ≡ o → ArePartsApart (option_map_or (λ i. remove ls i) o ls)
    by_place None e = apart
    by_place (Some i) e = remove_apart ls i (found_low q ls i e) apart

pub last_apart : (x : KeptText) (l : Layer) (ls : List Layer) → IsLayerOf x l → All (λ k. layers.same_part k.part (part.Text x.serial) ≡ false) ls → ArePartsApart ls → ArePartsApart (with_last l ls)
last_apart x l ls its none apart =
    subst ArePartsApart (inserted_last ls l)
    (apart_with (length ls) ls l apart (ap (λ q. layers.same_part q part.Picture) its.part) (subst (λ q. All (λ (k : Layer). layers.same_part k.part q ≡ false) ls) (sym its.part) none))

-- no layer of a window is a text record's that is new
pub none_new : (x : KeptText) (s : ℕ) (ts : List KeptText) (ws : List WindowRecord) (w : WindowRecord) → are_before (Some x.serial) ts ≡ true → AreJoined ts ws → record_with s ws ≡ Some w
    → All (λ k. layers.same_part k.part (part.Text x.serial) ≡ false) w.layers
none_new x s ts ws w given joined found =
    let there = at_serial (λ v. AreTextLayersOf (items_of v.serial ts) v.layers) s ws w found joined in
    none_named x.serial w.layers (items_of w.serial ts) there.0 (by_test (list_any (has_serial x.serial) (items_of w.serial ts)) refl)
  where
    by_test : (b : Bool) → list_any (has_serial x.serial) (items_of w.serial ts) ≡ b → list_any (has_serial x.serial) (items_of w.serial ts) ≡ false
    by_test true e = absurd (false≢true (sym (no_others x ts given) ∙ any_of x.serial w.serial ts e))
    by_test false e = e

-- ---- the desk

parts_there : (look : Look) (s : ℕ) (ws : List WindowRecord) (w : WindowRecord) → layers.AreWindows (map (layered_window look) ws) → record_with s ws ≡ Some w → layers.AreParts (layered_window look w).layers
parts_there look s [] w distinct e = absurd (cc)
parts_there look s (v ∷ vs) w distinct e = by_test (v.serial == s) e (parts_there look s vs w distinct.1.1)
  where
    by_test : (b : Bool) → cond b (Some v) (record_with s vs) ≡ Some w → (record_with s vs ≡ Some w → layers.AreParts (layered_window look w).layers) → layers.AreParts (layered_window look w).layers
    by_test true e rest = let same : v ≡ w = cc in subst (λ (x : WindowRecord). layers.AreParts (layered_window look x).layers) same distinct.1.0
    by_test false e rest = rest e

-- the layers of a window of the desk are apart
pub layers_apart : (d : FullDesk) (s : ℕ) (w : WindowRecord) → layers.IsDesk (layered_desk d) → record_with s d.windows ≡ Some w → ArePartsApart w.layers
layers_apart d s w distinct found = are_apart (look_of d) w (parts_there (look_of d) s d.windows w distinct found)

-- the desk is told apart where one of its windows has other layers that are, and whatever these show
pub laid_distinct : (d e : FullDesk) (s : ℕ) (ls : List Layer) → e ≡ record d { windows = map (with_layers_of s ls) d.windows; shows = e.shows } → ArePartsApart ls → layers.IsDesk (layered_desk d) → layers.IsDesk (layered_desk e)
laid_distinct d e s ls same apart distinct =
    subst (λ (x : FullDesk). layers.IsDesk (layered_desk x)) (sym same)
    (distinct_showing (λ font. e.shows) (record d { windows = map (with_layers_of s ls) d.windows }) (apart_so s ls (look_of d) d.windows apart distinct))

pub shown_distinct : (d e : FullDesk) → e ≡ record d { shows = e.shows } → layers.IsDesk (layered_desk d) → layers.IsDesk (layered_desk e)
shown_distinct d e same distinct = subst (λ (x : FullDesk). layers.IsDesk (layered_desk x)) (sym same) (distinct_showing (λ font. e.shows) d distinct)
