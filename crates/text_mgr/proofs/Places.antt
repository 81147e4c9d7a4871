-- Where a text record stands: its record, its window, and its layer there.
use Rattle.std.proofs.Common.{◌≡◌, ℕ, ◌<◌, ◌==◌, true, false, List, length, get_or, Option, Some, sym, ap, ◌∙◌, subst, eqb-true}
use Rattle.std.specs.Prelude.{IfSome, slice_get}
use Rattle.std.specs.Option.{option_and_then, option_map_or}
use Rattle.std.specs.List.{list_all}
use Rattle.std.proofs.lemmas.Bool.{and_parts}
use Rattle.desk_layers.specs.declared.part.Part.TheVariants as part
use Rattle.def_iface.specs.Slots.{TakenBox}
use Rattle.def_iface.specs.WindowMeaning.{WindowLoan}
use Rattle.def_iface.specs.WindowSlots.{WindowSlot}
use Rattle.desk_call.specs.declared.text.TextOf.{TextOf}
use Rattle.window_items.specs.Items.{is_in_at, is_item, items_of, place_among}
use Rattle.window_items.proofs.SerialLemmas.{apart_among}
use Rattle.window_items.proofs.WindowLemmas.{found_in, position_there, slice_get-items_of}
use Rattle.window_list.specs.Holders.{ArePartsApart, fits_at, layer_index}
use Rattle.window_list.specs.declared.window.Window.{Window}
use Rattle.window_mgr.specs.declared.manager.WindowManager.{WindowManager}
use Rattle.window_mgr.specs.Edits.{IsWindowAt}
use Rattle.window_mgr.specs.Whole.{IsSettled, IsWholeManager}
use Rattle.window_mgr.proofs.Contents as contents
use Rattle.control_mgr.proofs.Places.{IsThere, at_window, read_is, there_is, within}
use Rattle.text_mgr.specs.declared.spots.TextAt.{TextAt}
use Rattle.text_mgr.specs.declared.texts.Texts.{Texts}
use Rattle.text_mgr.specs.Spots.{IsSpotOf}
use Rattle.text_mgr.specs.TextDesks.{KeptText, index_of, text_of}
use Rattle.text_mgr.specs.TextLayers.{AreTextLayersOf}
use Rattle.text_mgr.specs.WholeTexts.{AreBeside}
use Rattle.text_mgr.proofs.Layered.{ItsLayer, its_layer}

named : (window serial : ℕ) (o : Option KeptText) (x : KeptText) → o ≡ Some x → option_map_or (is_item window serial) o false ≡ true → (x.window ≡ window) × (x.serial ≡ serial)
named window serial o x e h =
    let both = and_parts (x.window == window) (x.serial == serial) (sym (ap (λ y. option_map_or (is_item window serial) y false) e) ∙ h) in
    (eqb-true x.window window both.0, eqb-true x.serial serial both.1)

-- what stands at a place is one
pub one_there : {X : Type 0} (o : Option X) (x y : X) → o ≡ Some x → o ≡ Some y → x ≡ y
one_there o x y e f = cc

-- a text record that was found
module _ (t : TextOf) (ts : List KeptText) (at : ℕ) (found : index_of t ts ≡ Some at) where
  pub found_window : is_in_at t.window at ts ≡ true
  found_window = found_in t.window t.text at ts found

  pub found_names : (x : KeptText) → slice_get ts at ≡ Some x → (x.window ≡ t.window) × (x.serial ≡ t.text)
  found_names x there =
      named t.window t.text (slice_get ts at) x there
      (subst (λ o. IfSome o (λ i. option_map_or (is_item t.window t.text) (slice_get ts i) false ≡ true)) found (position_there (is_item t.window t.text) ts))

  pub text_there : (x : KeptText) → slice_get ts at ≡ Some x → text_of t ts ≡ Some x
  text_there x there = ap (option_and_then (slice_get ts)) found ∙ there

-- what is known of a text record that stands here
module _ {V : Type 0} {H : V → Type 0} (loan : TakenBox V H → WindowLoan) (x : TextOf) (t : WindowManager V H) (m : Texts) (s : TextAt) (is : IsSpotOf loan x t m s) where
  abbrev ts : List KeptText
  ts = m.list.items.items

  pub record_there : IsThere ts s.text
  record_there = there_is ts s.text is.low

  pub named_there : text_of x ts ≡ Some record_there.item
  named_there = text_there x ts s.text is.text record_there.item record_there.there

  pub names : (record_there.item.window ≡ x.window) × (record_there.item.serial ≡ x.text)
  names = found_names x ts s.text is.text record_there.item record_there.there

  -- the one that was read
  pub it_is : (y : KeptText) → slice_get ts s.text ≡ Some y → record_there.item ≡ y
  it_is y e = one_there (slice_get ts s.text) record_there.item y record_there.there e

  -- what is known of its window, and of its layer there
  module _ (w : Window V H) (lies : IsWindowAt t.windows.records.items s.window w) (beside : AreBeside loan t m) where
    pub joined_there : AreTextLayersOf (items_of x.window ts) w.layers.layers
    joined_there =
        subst (λ n. AreTextLayersOf (items_of n ts) w.layers.layers) (is.window.1 w lies)
        (at_window loan (λ r. AreTextLayersOf (items_of r.serial ts) r.layers) t.windows.records.items s.window w is.window.0 lies beside.joined)

    pub among_there : slice_get (items_of x.window ts) (place_among s.text ts) ≡ Some record_there.item
    among_there = slice_get-items_of x.window s.text ts (found_window x ts s.text is.text) ∙ record_there.there

    pub layer_there : ItsLayer record_there.item w.layers.layers
    layer_there = its_layer w.layers.layers (items_of x.window ts) (place_among s.text ts) record_there.item joined_there (apart_among x.window ts beside.apart) among_there

    -- where it is found
    pub layer_found : layer_index (part.Text x.text) w.layers.layers ≡ Some layer_there.index
    layer_found = subst (λ n. layer_index (part.Text n) w.layers.layers ≡ Some layer_there.index) names.1 layer_there.found

    pub layer_part : layer_there.layer.part ≡ part.Text x.text
    layer_part = layer_there.is.part ∙ ap (λ n. part.Text n) names.1

    pub layer_low : layer_there.index < length w.layers.layers
    layer_low = within w.layers.layers layer_there.index layer_there.layer layer_there.there

    pub layer_read : layer_there.layer ≡ get_or w.layers.layers layer_there.index layer_there.layer
    layer_read = read_is w.layers.layers layer_there.index layer_there.layer layer_there.there

    module _ (slots : List WindowSlot) (whole : IsWholeManager loan t slots) where
      pub parts_apart : ArePartsApart w.layers.layers
      parts_apart = contents.layers_apart loan t slots whole s.window is.window.0 w lies (λ font q p. false)

      pub layers_there : w.layers.place ≡ w.place
      layers_there = contents.layers_there loan t slots whole s.window is.window.0 w lies (λ font q p. false)

      pub layers_fit : list_all (fits_at w.place) w.layers.layers ≡ true
      layers_fit = (at_window loan IsSettled t.windows.records.items s.window w is.window.0 lies whole.sound.settled).layers
