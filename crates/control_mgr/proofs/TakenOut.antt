-- The layer of a control that is to end: where it stands among its window's, and the plan without it.
use Rattle.std.proofs.Common.{◌≡◌, ℕ, ◌+◌, ◌<◌, Bool, true, false, ◌==◌, cond, List, [], ◌∷◌, length, Option, Some, None, refl, sym, ap, ◌∙◌, subst}
use Rattle.std.specs.Prelude.{IfSome, is_none, slice_get}
use Rattle.std.specs.List.{position, position_from, remove}
use Rattle.std.specs.Option.{option_map, option_map_or}
use Rattle.std.proofs.lemmas.Bool.{false≢true}
use Rattle.std.proofs.lemmas.Iterator.Adapters.{position_from-zero}
use Rattle.std.proofs.lemmas.List.Elements.{All-head, All-tail}
use Rattle.tb_geom.specs.declared.point.Point.{Point}
use Rattle.tb_geom.specs.Points.{minus}
use Rattle.tb_geom.specs.Pixels.{Pixels, holds}
use Rattle.window_items.specs.Items.{item_index, items_of, has_serial, is_item, place_among}
use Rattle.window_items.proofs.SeenLemmas.{item_index-seen, length-seen, place_among-seen}
use Rattle.window_items.proofs.WindowLemmas.{position-items_of, position_there}
use Rattle.desk_layers.specs.declared.part.Part.{Part}
use Rattle.desk_layers.specs.declared.part.Part.TheVariants as part
use Rattle.def_iface.specs.Slots.{TakenBox}
use Rattle.def_iface.specs.ControlMeaning.{ControlLoan}
use Rattle.desk_layers.specs.Desk.{same_part}
use Rattle.def_iface.specs.WindowMeaning.{WindowLoan}
use Rattle.window_list.specs.declared.layer.Layer.{Layer}
use Rattle.window_list.specs.declared.layers.Relaid.{Relaid}
use Rattle.window_list.specs.LayerChanges.{is_gained}
use Rattle.window_list.specs.Holders.{ArePartsApart, PlacedLayers, layer_index}
use Rattle.desk_call.specs.declared.control.ControlOf.{ControlOf}
use Rattle.desk_call.specs.declared.update.LayerKind.TheVariants as kinds
use Rattle.vis_update.specs.declared.relaying.Relaying.{Relaying}
use Rattle.window_list.specs.declared.window.Window.{Window}
use Rattle.window_paint.specs.Kinds.{is_of}
use Rattle.window_mgr.specs.declared.manager.WindowManager.{WindowManager}
use Rattle.window_mgr.specs.Edits.{IsWindowAt}
use Rattle.window_mgr.specs.Kept.{IsKept}
use Rattle.window_mgr.specs.Relayered.{HasUpdate, IsGainedAt, IsPartAt, IsPlanOfLayers, MayHaveLayers}
use Rattle.window_mgr.proofs.Steps.{found}
use Rattle.control_mgr.specs.declared.controls.Controls.{Controls}
use Rattle.control_mgr.specs.declared.ending.Ending.{Ending}
use Rattle.control_mgr.specs.declared.spots.ControlAt.{ControlAt}
use Rattle.control_mgr.specs.ControlDesks.{ControlRecord, index_of}
use Rattle.control_mgr.specs.ControlSteps.{AreLayersOf}
use Rattle.control_mgr.specs.Ending.{IsEnding, IsReadyToEnd, IsTakenOut}
use Rattle.control_mgr.specs.Spots.{IsSpotOf}
use Rattle.control_mgr.specs.WholeControls.{records_of}
use Rattle.control_mgr.proofs.Edited.{AreNoControls, no_control}
use Rattle.control_mgr.proofs.LayerOut.{apart_out, may_out, planned_out}
use Rattle.control_mgr.proofs.Places.{at_window, read_is, there_is, within}
use Rattle.control_mgr.specs.Seen.{kept_seen}

-- ---- where it stands

abbrev is_its : ℕ → Layer → Bool
is_its n l = same_part l.part (part.Control n)

nowhere : (n i : ℕ) (ls : List Layer) → AreNoControls ls → position_from (is_its n) i ls ≡ None
nowhere n i [] others = refl
nowhere n i (l ∷ ls) others =
    ap (λ b. cond b (Some i) (position_from (is_its n) (i + 1) ls)) (no_control l.part n (All-head (λ (x : Layer). is_of kinds.Controls x.part ≡ false) l ls others))
    ∙ nowhere n (i + 1) ls (All-tail (λ (x : Layer). is_of kinds.Controls x.part ≡ false) l ls others)

index_further : (n i : ℕ) (cs : List ControlRecord) (ls : List Layer) → AreLayersOf cs ls → position_from (is_its n) i ls ≡ position_from (has_serial n) i cs
index_further n i [] ls h = nowhere n i ls h
index_further n i (c ∷ cs) [] h = absurd h
index_further n i (c ∷ cs) (l ∷ ls) h =
    ap (λ b. cond b (Some i) (position_from (is_its n) (i + 1) ls)) (ap (λ q. same_part q (part.Control n)) h.0.part)
    ∙ ap (λ o. cond (c.serial == n) (Some i) o) (index_further n (i + 1) cs ls h.1)

-- where its control stands among the window's
pub index_among : (n : ℕ) (cs : List ControlRecord) (ls : List Layer) → AreLayersOf cs ls → layer_index (part.Control n) ls ≡ position (has_serial n) cs
index_among n cs ls h = position_from-zero (is_its n) ls ∙ index_further n 0 cs ls h ∙ sym (position_from-zero (has_serial n) cs)

none_found : (o : Option ℕ) (cs : List ControlRecord) → option_map (λ at. place_among at cs) o ≡ None → o ≡ None
none_found None cs e = refl
none_found (Some at) cs e = absurd (cc)

place_found : (o : Option ℕ) (i : ℕ) (cs : List ControlRecord) → option_map (λ at. place_among at cs) o ≡ Some i → (at : ℕ) × (o ≡ Some at) × (place_among at cs ≡ i)
place_found None i cs e = absurd (cc)
place_found (Some at) i cs e = (at, refl, cc)

found_low : (p : ControlRecord → Bool) (cs : List ControlRecord) (at : ℕ) → position p cs ≡ Some at → at < length cs
found_low p cs at e = by_item (slice_get cs at) refl (subst (λ o. IfSome o (λ i. option_map_or p (slice_get cs i) false ≡ true)) e (position_there p cs))
  where
    by_item : (o : Option ControlRecord) → slice_get cs at ≡ o → option_map_or p o false ≡ true → at < length cs
    by_item None there h = absurd (false≢true h)
    by_item (Some c) there h = within cs at c there

-- ---- the plan without it

module _ {V : Type 0} {H : V → Type 0} (loan : TakenBox V H → WindowLoan) {W : Type 0} {K : W → Type 0} (control_loan : TakenBox W K → ControlLoan)
    (c : ControlOf) (at : ℕ) (ls : PlacedLayers) (update : Pixels) (t u : WindowManager V H) (m : Controls (TakenBox W K)) (ready : IsReadyToEnd loan control_loan c at ls update t u m) where
  abbrev cs : List ControlRecord
  cs = records_of control_loan m

  abbrev kept : IsKept loan u
  kept = ready.laid.has.kept

  abbrev low : at < length u.windows.records.items
  low = ready.laid.has.low

  abbrev w : Window V H
  w = (there_is u.windows.records.items at low).item

  lies : IsWindowAt u.windows.records.items at w
  lies = read_is u.windows.records.items at w (there_is u.windows.records.items at low).there

  joined : AreLayersOf (items_of c.window cs) ls.layers
  joined =
      subst (λ (x : ℕ × PlacedLayers). AreLayersOf (items_of x.0 cs) x.1.layers) (λ i. (ready.stands.1 w lies i, ready.laid.layers w lies i))
      (at_window loan (λ r. AreLayersOf (items_of r.serial cs) r.layers) u.windows.records.items at w low lies ready.beside.whole.joined)

  index_is : layer_index (part.Control c.control) ls.layers ≡ option_map (λ k. place_among k cs) (index_of c cs)
  index_is = index_among c.control (items_of c.window cs) ls.layers joined ∙ sym (position-items_of c.window c.control cs)

  -- where there is no layer, there is no control
  pub not_there : layer_index (part.Control c.control) ls.layers ≡ None → index_of c cs ≡ None
  not_there e = none_found (index_of c cs) cs (sym index_is ∙ e)

  module _ (i : ℕ) (is : layer_index (part.Control c.control) ls.layers ≡ Some i) where
    its : (at : ℕ) × (index_of c cs ≡ Some at) × (place_among at cs ≡ i)
    its = place_found (index_of c cs) i cs (sym index_is ∙ is)

    abbrev spot : ControlAt
    spot = record { window = at; control = its.0 }

    spot_is : IsSpotOf loan control_loan c u m spot
    spot_is = record {
      window = ready.stands;
      there = ap is_none (found loan u u kept.slots kept.whole at c.window w low lies (ready.stands.1 w lies));
      control = its.1;
      low = subst (λ n. its.0 < n) (length-seen (kept_seen control_loan) m.list.items.items) (found_low (is_item c.window c.control) cs its.0 its.1);
    }

    place_is : i ≡ place_among its.0 m.list.items.items
    place_is = sym its.2 ∙ place_among-seen (kept_seen control_loan) its.0 m.list.items.items

    module _ (relaid : Relaid) (layers_are : relaid.layers ≡ record ls { layers = remove ls.layers i }) where
      layers_of : (v : Window V H) → IsWindowAt u.windows.records.items at v → relaid.layers ≡ record v.layers { layers = remove v.layers.layers (place_among its.0 m.list.items.items) }
      layers_of v v_is = layers_are ∙ (λ j. record (sym (ready.laid.layers v v_is) j) { layers = remove (sym (ready.laid.layers v v_is) j).layers (place_is j) })

      pub ending_is : i < length ls.layers → ArePartsApart ls.layers → ((p : Point) → holds relaid.gained p ≡ is_gained None ls.layers relaid.layers.layers (minus p ls.place)) → (r : Relaying)
          → ((v : WindowManager V H) → HasUpdate loan at update t v → MayHaveLayers at v relaid.layers
          → (afresh : Option Part) → IsPartAt relaid.layers.layers None afresh → IsGainedAt at afresh v relaid → IsPlanOfLayers loan at relaid.layers.layers afresh v r)
          → IsEnding loan control_loan c u m (record { window = at; layers = relaid.layers; relaying = r })
      ending_is inside apart gains r planned = record {
        at = its.0;
        spot = spot_is;
        layers = layers_of;
        may = may_out ls i inside apart relaid.layers layers_are loan at update t u ready.laid;
        planned = planned_out ls i inside apart relaid.layers layers_are loan at update t u ready.laid relaid.gained gains r planned;
      }

-- the layers without it
pub taken_out : (at n i : ℕ) (ls layers : PlacedLayers) (r : Relaying) → layer_index (part.Control n) ls.layers ≡ Some i → i < length ls.layers → ArePartsApart ls.layers
    → layers ≡ record ls { layers = remove ls.layers i } → IsTakenOut at n ls (record { window = at; layers = layers; relaying = r })
taken_out at n i ls layers r is low apart layers_are = record { window = refl; index = i; found = is; layers = layers_are; apart = apart_out ls i low apart layers layers_are }

-- ---- the control is found again

module _ {V : Type 0} {H : V → Type 0} (loan : TakenBox V H → WindowLoan) {W : Type 0} {K : W → Type 0} (control_loan : TakenBox W K → ControlLoan)
    (c : ControlOf) (t : WindowManager V H) (m : Controls (TakenBox W K)) (e : Ending) (ending : IsEnding loan control_loan c t m e) where
  -- it is in the list
  pub found_again : (o : Option ℕ) → o ≡ item_index c.window c.control m.list.items.items → o ≡ Some ending.at
  found_again o is = is ∙ sym (item_index-seen (kept_seen control_loan) c.window c.control m.list.items.items) ∙ ending.spot.control

  module _ (at : ℕ) (is : Some ending.at ≡ Some at) where
    same : ending.at ≡ at
    same = cc

    pub spot_at : IsSpotOf loan control_loan c t m (record { window = e.window; control = at })
    spot_at = subst (λ k. IsSpotOf loan control_loan c t m (record { window = e.window; control = k })) same ending.spot

    pub layers_at : (w : Window V H) → IsWindowAt t.windows.records.items e.window w → e.layers ≡ record w.layers { layers = remove w.layers.layers (place_among at m.list.items.items) }
    layers_at w lies = subst (λ k. e.layers ≡ record w.layers { layers = remove w.layers.layers (place_among k m.list.items.items) }) same (ending.layers w lies)

    pub planned_at : (part : Option Part) → IsPartAt e.layers.layers None part → IsPlanOfLayers loan e.window e.layers.layers part t e.relaying
    planned_at part is = subst (λ o. IsPlanOfLayers loan e.window e.layers.layers o t e.relaying) (sym is) ending.planned
