-- A control that is made: its layer behind those of the other controls of its window, and the plan.
use Rattle.std.proofs.Common.{◌≡◌, ℕ, ◌<◌, ◌≤◌, true, false, List, [], ◌∷◌, length, Option, Some, refl, sym, ap, ◌∙◌, subst}
use Rattle.std.specs.Prelude.{All}
use Rattle.std.specs.List.{insert, list_any}
use Rattle.std.proofs.lemmas.List.Elements.{All-cons, All-weaker}
use Rattle.tb_geom.specs.declared.point.Point.{Point}
use Rattle.tb_geom.specs.Points.{minus}
use Rattle.tb_geom.specs.Pixels.{Pixels, holds}
use Rattle.tb_geom.specs.Rects.{is_in_range, moved_rect}
use Rattle.window_items.specs.Items.{are_before, items_of, has_serial}
use Rattle.window_items.proofs.LawLemmas.{no_others}
use Rattle.window_items.proofs.WindowLemmas.{count_of-length}
use Rattle.desk_layers.specs.declared.part.Part.{Part}
use Rattle.desk_layers.specs.declared.part.Part.TheVariants as part
use Rattle.def_iface.specs.Slots.{TakenBox}
use Rattle.def_iface.specs.ControlMeaning.{ControlDefinition, ControlLoan}
use Rattle.desk_layers.specs.Desk.{same_part}
use Rattle.def_iface.specs.WindowMeaning.{WindowLoan}
use Rattle.window_list.specs.declared.layer.Layer.{Layer}
use Rattle.window_list.specs.declared.layer.LayerShape.{LayerShape}
use Rattle.window_list.specs.declared.layers.Relaid.{Relaid}
use Rattle.window_list.specs.LayerChanges.{is_gained}
use Rattle.window_list.specs.Holders.{ArePartsApart, IsLayerAt, PlacedLayers, fits_at}
use Rattle.desk_call.specs.declared.control.NewControl.{NewControl}
use Rattle.desk_call.specs.declared.update.LayerKind.TheVariants as kinds
use Rattle.vis_update.specs.declared.relaying.Relaying.{Relaying}
use Rattle.window_list.specs.declared.window.Window.{Window}
use Rattle.window_paint.specs.Kinds.{is_of}
use Rattle.window_mgr.specs.declared.manager.WindowManager.{WindowManager}
use Rattle.window_mgr.specs.Edits.{IsWindowAt}
use Rattle.window_mgr.specs.Kept.{IsKept}
use Rattle.window_mgr.specs.Relayered.{HasUpdate, IsGainedAt, IsPartAt, IsPlanOfLayers, MayHaveLayers}
use Rattle.window_mgr.proofs.Contents as contents
use Rattle.window_items.proofs.SerialLemmas.{none_in_window, or_parts}
use Rattle.control_mgr.specs.declared.controls.Controls.{Controls}
use Rattle.control_mgr.specs.declared.laying.Lie.{Lie}
use Rattle.control_mgr.specs.declared.making.Ticket.{Ticket}
use Rattle.control_mgr.specs.ControlDesks.{ControlRecord}
use Rattle.control_mgr.specs.ControlSteps.{AreLayersOf, IsLayerOf, new_control}
use Rattle.control_mgr.specs.Judged.{may_be_placed}
use Rattle.control_mgr.specs.Laying.{IsShapeOf, MayLieSo}
use Rattle.control_mgr.specs.Making.{IsAddition, IsGrown, IsReadyToAdd, IsTicket, MayGrow}
use Rattle.control_mgr.specs.WholeControls.{AreBeside, records_of}
use Rattle.control_mgr.proofs.Edited.{AreNoControls, begin_length, no_control}
use Rattle.control_mgr.proofs.LayerIn.{apart_in, low_in, may_in, planned_in}
use Rattle.control_mgr.proofs.Lays.{MayLieAt, lie_parts}
use Rattle.control_mgr.proofs.Places.{at_window, there_is, read_is}

-- ---- one more layer

-- where no control of these has a serial, no layer of theirs is its
pub others_named : (n : ℕ) (cs : List ControlRecord) (ls : List Layer) → AreLayersOf cs ls → list_any (has_serial n) cs ≡ false → All (λ l. same_part l.part (part.Control n) ≡ false) ls
others_named n [] ls h e = All-weaker (λ (l : Layer). is_of kinds.Controls l.part ≡ false) (λ (l : Layer). same_part l.part (part.Control n) ≡ false) (λ l its. no_control l.part n its) ls h
others_named n (c ∷ cs) [] h e = absurd h
others_named n (c ∷ cs) (l ∷ ls) h e =
    let both = or_parts (has_serial n c) (list_any (has_serial n) cs) e in
    All-cons (λ (l : Layer). same_part l.part (part.Control n) ≡ false) l ls (ap (λ q. same_part q (part.Control n)) h.0.part ∙ both.0) (others_named n cs ls h.1 both.1)

-- how a new control lies
abbrev pub lie_of : NewControl → Lie
lie_of n = record { place = n.place; size = n.size; shown = n.shown }

-- its layer
abbrev pub layer_with : ℕ → LayerShape → Layer
layer_with serial shape = record { part = part.Control serial; shown = shape.shown; region = shape.region; bounds = shape.bounds }

-- ---- a control that is planned

module _ (n : NewControl) (d : ControlDefinition) (k : Ticket) (ls : PlacedLayers) (may : MayGrow n d k ls) where
  grow_at : MayLieAt d (lie_of n) ls.place
  grow_at = lie_parts d (lie_of n) ls.place may.placed

  pub grow_so : MayLieSo d (lie_of n)
  grow_so = grow_at.so

  module _ (shape : LayerShape) (shaped : IsShapeOf d (lie_of n) shape) where
    abbrev own : Layer
    own = layer_with k.serial shape

    own_fits : fits_at ls.place own ≡ true
    own_fits = ap (λ b. is_in_range (moved_rect b ls.place.h ls.place.v)) shaped.bounds ∙ grow_at.on_screen

    pub own_lies : IsLayerAt ls.place own
    own_lies = record { boxed = shaped.boxed; inside = ap is_in_range shaped.bounds ∙ grow_so.inside; fits = own_fits }

    own_is : (slot : ℕ) → IsLayerOf (new_control n k.serial slot d) own
    own_is slot = record { part = refl; shown = shaped.shown; region = shaped.region; bounds = shaped.bounds }

    module _ (relaid : Relaid) (layers_are : relaid.layers ≡ record ls { layers = insert ls.layers k.layer own }) where
      pub new_low : k.layer < length relaid.layers.layers
      new_low = low_in ls k.layer own may.index relaid layers_are

      pub new_apart : ArePartsApart relaid.layers.layers
      new_apart = apart_in ls k.layer own may.index relaid layers_are may.apart refl may.unused

      pub grown : (r : Relaying) → IsGrown n d k ls (record { ticket = k; layers = relaid.layers; relaying = r })
      grown r = record { ticket = refl; layer = own; is = own_is; layers = layers_are; apart = new_apart }

      -- the windows and controls to which it is added
      module _ {V : Type 0} {H : V → Type 0} (loan : TakenBox V H → WindowLoan) {W : Type 0} {K : W → Type 0} (control_loan : TakenBox W K → ControlLoan) (update : Pixels) (t u : WindowManager V H)
          (m : Controls (TakenBox W K)) (ready : IsReadyToAdd loan control_loan n d k ls update t u m) where
        -- the plan of it
        pub added_is : ((p : Point) → holds relaid.gained p ≡ is_gained (Some (part.Control k.serial)) ls.layers relaid.layers.layers (minus p ls.place)) → (r : Relaying)
            → ((v : WindowManager V H) → HasUpdate loan k.window update t v → MayHaveLayers k.window v relaid.layers
            → (afresh : Option Part) → IsPartAt relaid.layers.layers (Some k.layer) afresh → IsGainedAt k.window afresh v relaid → IsPlanOfLayers loan k.window relaid.layers.layers afresh v r)
            → IsAddition loan control_loan n d u m (record { ticket = k; layers = relaid.layers; relaying = r })
        added_is gains r planned = record {
          ticket = ready.ticket;
          layer = own;
          is = own_is;
          layers = λ w lies. ap (λ (x : PlacedLayers). x.layers) layers_are ∙ ap (λ (x : PlacedLayers). insert x.layers k.layer own) (sym (ready.laid.layers w lies));
          low = new_low;
          may = may_in ls k.layer own may.index relaid layers_are loan k.window update t u ready.laid new_apart own_fits;
          planned = planned_in ls k.layer own may.index relaid layers_are loan k.window update t u ready.laid new_apart own_fits gains r planned;
          room = ready.room;
        }

-- ---- a control that may be planned

module _ {V : Type 0} {H : V → Type 0} (loan : TakenBox V H → WindowLoan) {W : Type 0} {K : W → Type 0} (control_loan : TakenBox W K → ControlLoan)
    (n : NewControl) (d : ControlDefinition) (t : WindowManager V H) (m : Controls (TakenBox W K)) (k : Ticket)
    (kept : IsKept loan t) (beside : AreBeside control_loan loan t m) (ticket : IsTicket control_loan n (Some d) t m k) where
  abbrev cs : List ControlRecord
  cs = records_of control_loan m

  -- no control has the serial yet
  pub unused : list_any (has_serial k.serial) cs ≡ false
  unused = no_others (new_control n k.serial 0 d) cs (subst (λ o. are_before o cs ≡ true) ticket.serial beside.whole.given)

  module _ (w : Window V H) (lies : IsWindowAt t.windows.records.items k.window w) where
    pub its : AreLayersOf (items_of n.window cs) w.layers.layers
    its =
        subst (λ s. AreLayersOf (items_of s cs) w.layers.layers) (ticket.window.1 w lies)
        (at_window loan (λ r. AreLayersOf (items_of r.serial cs) r.layers) t.windows.records.items k.window w ticket.window.0 lies beside.whole.joined)

    -- there are no more controls than layers
    no_more : k.layer ≤ length w.layers.layers
    no_more =
        subst (λ k. k ≤ length w.layers.layers) (sym (ticket.layer ∙ count_of-length n.window cs))
        (begin_length IsLayerOf AreNoControls (items_of n.window cs) w.layers.layers its)

    pub may_grow : MayGrow n d k w.layers
    may_grow = record {
      index = no_more;
      apart = contents.layers_apart loan t kept.slots kept.whole k.window ticket.window.0 w lies (λ font q p. false);
      unused = others_named k.serial (items_of n.window cs) w.layers.layers its (none_in_window k.serial n.window cs unused);
      placed =
          ap (λ place. may_be_placed (Some d) n.place n.size place) (contents.layers_there loan t kept.slots kept.whole k.window ticket.window.0 w lies (λ font q p. false))
          ∙ ticket.placed w lies;
    }

  -- whatever the window, the definition may be laid so
  pub may_lie_so : MayLieSo d (lie_of n)
  may_lie_so =
      let w = there_is t.windows.records.items k.window ticket.window.0 in
      (lie_parts d (lie_of n) w.item.place (ticket.placed w.item (read_is t.windows.records.items k.window w.item w.there))).so
