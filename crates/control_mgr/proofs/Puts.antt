-- A control that is given another state, and shown anew.
use Rattle.std.proofs.Common.{◌≡◌, ℕ, ◌<◌, Bool, true, false, ◌&&◌, List, [], length, get_or, Some, refl, sym, ap, ◌∙◌, subst}
use Rattle.std.specs.Prelude.{IfSome, slice_get}
use Rattle.tb_geom.specs.declared.rect.Rect.{Rect}
use Rattle.tb_geom.specs.Points.{PixelSet, minus}
use Rattle.tb_geom.specs.Rects.{rect_holds}
use Rattle.bit_blit.proofs.WrittenLemmas.{written_in}
use Rattle.window_items.specs.declared.item.Item.{Item}
use Rattle.control_mgr.specs.declared.control.Control.{Control}
use Rattle.window_items.specs.Items.{edit_at, place_among, with_kept}
use Rattle.control_mgr.specs.Seen.{all_seen, kept_seen}
use Rattle.window_items.proofs.SeenLemmas.{edit_at-seen, length-seen, place_among-seen}
use Rattle.desk_layers.specs.declared.part.Part.{Part}
use Rattle.desk_layers.specs.declared.part.Part.TheVariants as part
use Rattle.def_iface.specs.Slots.{TakenBox}
use Rattle.def_iface.specs.ControlMeaning.{ControlLoan, IsControlBegun}
use Rattle.def_iface.specs.WindowMeaning.{WindowLoan}
use Rattle.def_iface.specs.WindowSlots.{WindowSlot}
use Rattle.desk_layers.proofs.Owning.{same_number}
use Rattle.window_list.specs.declared.layer.Layer.{Layer}
use Rattle.desk_call.specs.declared.control.ControlOf.{ControlOf}
use Rattle.window_list.specs.declared.window.Window.{Window}
use Rattle.window_mgr.specs.declared.manager.WindowManager.{WindowManager}
use Rattle.window_mgr.specs.DeskStates.{Opened}
use Rattle.window_mgr.specs.DrawnWithin.{WritesPart}
use Rattle.window_mgr.specs.Edits.{IsWindowAt}
use Rattle.window_mgr.specs.FullDesk.{FullDesk}
use Rattle.window_mgr.specs.Records.{desk_of, state_of, state_showing}
use Rattle.window_mgr.specs.Relayered.{IsLayerDrawnWithin, IsLayerRedrawn, IsSameOutside}
use Rattle.window_mgr.specs.Whole.{IsWholeManager}
use Rattle.control_mgr.specs.declared.controls.Controls.{Controls}
use Rattle.control_mgr.specs.declared.setting.State.{State}
use Rattle.control_mgr.specs.declared.spots.ControlAt.{ControlAt}
use Rattle.control_mgr.specs.ControlDesks.{ControlRecord, control_bit, controls_show, news_of_control, with_serial}
use Rattle.control_mgr.specs.ControlSteps.{IsChangedAt, IsChangedTo}
use Rattle.control_mgr.specs.Damages.{IsAnswerOf, IsDamageAt, IsDamageOf, IsPut}
use Rattle.control_mgr.specs.DamageWritten.{WritesDamages}
use Rattle.control_mgr.specs.Settled.{AreSettled, IsSettledControl}
use Rattle.control_mgr.specs.Spots.{IsSpot, IsSpotOf, IsTellable, with_state}
use Rattle.control_mgr.specs.WholeControls.{AreBeside, AreWholeControls, LeavesControls, control_desk, controls_state, records_of}
use Rattle.control_mgr.proofs.Settled.{changed_settled, retold, whole_put}
use Rattle.control_mgr.proofs.Sound.{MayHave}
use Rattle.control_mgr.proofs.Places.{IsThere, ItsLayer, layer_there, names, read_is, record_there, there_is, within}
use Rattle.control_mgr.proofs.Reshown.{alone, redrawn_among}
use Rattle.window_items.proofs.SerialLemmas.{with_there}
use Rattle.window_items.specs.declared.items.Items.{Items}
use Rattle.window_items.specs.Lends.{with_value}
use Rattle.window_items.proofs.LentLemmas.{lent_and_written}
use Rattle.window_items.proofs.EditLemmas.{All-there, edit_alike, edit_twice, there_edited}

-- ---- what the list has after a control that was lent

same_item : (cs : List ControlRecord) (at : ℕ) (c d : ControlRecord) → slice_get cs at ≡ Some c → slice_get cs at ≡ Some d → d ≡ c
same_item cs at c d e f = cc

-- a change that leaves the definition, and then the definition told, is one change
pub changed_then_told : (f : ControlRecord → ControlRecord) → ((c : ControlRecord) → (f c).kept.definition ≡ c.kept.definition) → (at : ℕ) (xs ys zs : List ControlRecord)
    → IsThere xs at → ys ≡ edit_at f at xs → IsChangedAt (λ c. c) at ys zs → IsChangedAt f at xs zs
changed_then_told f keeps at xs ys zs is changed told = record {
  control = is.item;
  there = is.there;
  definition = told.definition;
  told = subst (λ (c : ControlRecord). IsControlBegun (news_of_control c) is.item.kept.definition.definition told.definition) there
      (subst (λ (k : ControlLoan). IsControlBegun (news_of_control told.control) k.definition told.definition) (ap (λ (c : ControlRecord). c.kept.definition) there ∙ keeps is.item) told.told);
  controls = told.controls ∙ ap (edit_at (retold (λ c. c) told.definition) at) changed
      ∙ edit_twice f (retold (λ c. c) told.definition) at xs
      ∙ edit_alike (λ c. retold (λ x. x) told.definition (f c)) (retold f told.definition) at xs
      (λ c e. ap (λ (loan : ControlLoan). with_kept (λ k. record k { definition = record { definition = told.definition; slot = loan.slot } }) (f c)) (keeps c));
}
  where
    there : told.control ≡ f is.item
    there = same_item ys at (f is.item) told.control (ap (λ cs. slice_get cs at) changed ∙ there_edited f at xs is.item is.there) told.there

module _ {W : Type 0} {K : W → Type 0} (control_loan : TakenBox W K → ControlLoan) where
  -- what is kept of a control of this state
  abbrev of_state : State → Control (TakenBox W K) → Control (TakenBox W K)
  of_state s k = record k { values = s.values; highlight = s.highlight; title = s.title }

  -- a control that was lent is given a state
  pub state_set : (s : State) (at : ℕ) (cs : Items (Control (TakenBox W K))) (k : Control (TakenBox W K)) → IfSome (slice_get cs.items.items at) (λ c. k ≡ c.kept)
      → all_seen control_loan (with_value cs at (of_state s k)).items.items ≡ edit_at (with_state s) at (all_seen control_loan cs.items.items)
  state_set s at cs k lent =
      ap (all_seen control_loan) (lent_and_written (of_state s) cs at k lent)
      ∙ edit_at-seen (kept_seen control_loan) (with_kept (of_state s)) (with_state s) (λ c. refl) at cs.items.items

  -- a control that was given a state, and its definition told of it
  pub state_changed : (s : State) (at : ℕ) (m n : Controls (TakenBox W K)) (ds : List (Item (Control (TakenBox W K)))) → at < length m.list.items.items
      → all_seen control_loan ds ≡ edit_at (with_state s) at (records_of control_loan m) → IsChangedAt (λ c. c) at (all_seen control_loan ds) (records_of control_loan n)
      → IsChangedAt (with_state s) at (records_of control_loan m) (records_of control_loan n)
  state_changed s at m n ds low set told =
      changed_then_told (with_state s) (λ c. refl) at (records_of control_loan m) (all_seen control_loan ds) (records_of control_loan n)
      (there_is (records_of control_loan m) at (subst (λ k. at < k) (sym (length-seen (kept_seen control_loan) m.list.items.items)) low)) set told

  -- its definition can be told of it
  pub state_tellable : (s : State) (at : ℕ) (m : Controls (TakenBox W K)) (ds : List (Item (Control (TakenBox W K)))) → at < length m.list.items.items → AreSettled (records_of control_loan m)
      → all_seen control_loan ds ≡ edit_at (with_state s) at (records_of control_loan m) → IfSome (slice_get (all_seen control_loan ds) at) IsTellable
  state_tellable s at m ds low settled set =
      let was = there_is (records_of control_loan m) at (subst (λ k. at < k) (sym (length-seen (kept_seen control_loan) m.list.items.items)) low) in
      let its : IsSettledControl was.item = All-there IsSettledControl at (records_of control_loan m) was.item was.there settled in
      subst (λ o. IfSome o IsTellable) (sym (ap (λ cs. slice_get cs at) set ∙ there_edited (with_state s) at (records_of control_loan m) was.item was.there))
      (record { live = its.live; fits = its.fits })

  -- the damage that it answers is that of the change
  pub state_damaged : (s : State) (at : ℕ) (m n : Controls (TakenBox W K)) (ds : List (Item (Control (TakenBox W K)))) (damage : Rect)
      → all_seen control_loan ds ≡ edit_at (with_state s) at (records_of control_loan m) → IsDamageAt damage at (all_seen control_loan ds) (records_of control_loan n)
      → (c d : ControlRecord) → slice_get (records_of control_loan m) at ≡ Some c → slice_get (records_of control_loan n) at ≡ Some d → IsDamageOf damage c d
  state_damaged s at m n ds damage set damaged c d there then =
      subst (λ o. IfSome o (λ y. IsDamageOf damage (with_state s c) y)) then
      (subst (λ o. IfSome o (λ x. IfSome (slice_get (records_of control_loan n) at) (λ y. IsDamageOf damage x y)))
      (ap (λ cs. slice_get cs at) set ∙ there_edited (with_state s) at (records_of control_loan m) c there) damaged)

  -- and so are the pixels that it may have
  pub state_answered : (s : State) (at : ℕ) (m : Controls (TakenBox W K)) (ds : List (Item (Control (TakenBox W K)))) (damage : Rect)
      → all_seen control_loan ds ≡ edit_at (with_state s) at (records_of control_loan m) → IfSome (slice_get (all_seen control_loan ds) at) (IsAnswerOf damage)
      → (c : ControlRecord) → slice_get (records_of control_loan m) at ≡ Some c → IsAnswerOf damage (with_state s c)
  state_answered s at m ds damage set answered c there =
      subst (λ o. IfSome o (IsAnswerOf damage)) (ap (λ cs. slice_get cs at) set ∙ there_edited (with_state s) at (records_of control_loan m) c there) answered

  -- and then all are settled
  pub state_settled : (s : State) → MayHave s → (at : ℕ) (m n : Controls (TakenBox W K)) → AreSettled (records_of control_loan m)
      → IsChangedAt (with_state s) at (records_of control_loan m) (records_of control_loan n) → AreSettled (records_of control_loan n)
  state_settled s may at m n settled changed =
      changed_settled (with_state s) at (records_of control_loan m) (records_of control_loan n) settled
      (λ c e. let its : IsSettledControl c = All-there IsSettledControl at (records_of control_loan m) c e settled in record { placed = its.placed; fits = its.fits; inside = its.inside; setting = may.setting; highlight = may.highlight }) changed

  module _ {V : Type 0} {H : V → Type 0} (loan : TakenBox V H → WindowLoan) where
    -- its layer is there
    pub layer_low : (t : WindowManager V H) (m : Controls (TakenBox W K)) (spot : ControlAt) → IsSpot loan control_loan t m spot → AreBeside control_loan loan t m
        → (w : Window V H) → IsWindowAt t.windows.records.items spot.window w → place_among spot.control m.list.items.items < length w.layers.layers
    layer_low t m spot is beside w lies =
        let its = layer_there loan control_loan is.of t m spot is.is w lies beside.whole.joined in
        subst (λ n. n < length w.layers.layers) (place_among-seen (kept_seen control_loan) spot.control m.list.items.items) (within w.layers.layers _ its.layer its.there)

    -- and no pixel is written that it does not own, or that the damages may not have
    pub put_written : (s : State) (t u : WindowManager V H) (m : Controls (TakenBox W K)) (spot : ControlAt) → IsSpot loan control_loan t m spot → AreBeside control_loan loan t m
        → (index : ℕ) → index ≡ place_among spot.control m.list.items.items → (damage : Rect)
        → ((x : ControlRecord) → slice_get (records_of control_loan m) spot.control ≡ Some x → IsAnswerOf damage (with_state s x))
        → ((w : Window V H) → IsWindowAt t.windows.records.items spot.window w → (l : Layer) → l ≡ get_or w.layers.layers index l → WritesPart loan w.serial l.part w.place (rect_holds damage) t u)
        → WritesDamages loan control_loan (with_state s) spot m t u
    put_written s t u m spot is beside index index_is damage answers written x there w lies r held =
        let its : ItsLayer loan control_loan is.of t m spot is.is w = layer_there loan control_loan is.of t m spot is.is w lies beside.whole.joined in
        let read : its.layer ≡ get_or w.layers.layers index its.layer = subst (λ n. its.layer ≡ get_or w.layers.layers n its.layer) (place_among-seen (kept_seen control_loan) spot.control m.list.items.items ∙ sym index_is) (read_is w.layers.layers _ its.layer its.there) in
        let here = record_there loan control_loan is.of t m spot is.is in
        let named : its.layer.part ≡ part.Control x.serial = its.is_layer.part ∙ ap (λ (c : ControlRecord). part.Control c.serial) (sym (same_item (records_of control_loan m) spot.control here.item x here.there there)) in
        let drawn = subst (λ q. WritesPart loan w.serial q w.place (rect_holds damage) t u) named (written w lies its.layer read) in
        written_in _ _ t.screen u.screen (λ p on out. fewer _ (rect_holds damage (minus p w.place)) _ (answers x there r held (minus p w.place)) out) drawn
      where
        fewer : (a d e : Bool) → (d ≡ true → e ≡ true) → (a && e) ≡ false → (a && d) ≡ false
        fewer true true e more out = sym (more refl) ∙ out
        fewer true false e more out = refl
        fewer false d e more out = refl

    -- what show_layer leaves of the window manager
    abbrev pub IsDrawnFor : Rect → ℕ → ℕ → (List ℕ → Part → PixelSet) → WindowManager V H → WindowManager V H → Type 0
    IsDrawnFor damage at index shows t u = (w : Window V H) → IsWindowAt t.windows.records.items at w → (l : Layer) → l ≡ get_or w.layers.layers index l
        → (was : List ℕ → Part → PixelSet) (slots : List WindowSlot) → IsWholeManager loan t slots
        → IsWholeManager loan u slots × IsLayerDrawnWithin damage w.serial l (state_showing was (state_of loan t slots)) (state_showing shows (state_of loan u slots))

    pub put_shown : (c : ControlOf) (s : State) → MayHave s → (t u : WindowManager V H) (m n : Controls (TakenBox W K)) (spot : ControlAt) → IsSpotOf loan control_loan c t m spot
        → IsChangedAt (with_state s) spot.control (records_of control_loan m) (records_of control_loan n) → n.list.next ≡ m.list.next
        → (index : ℕ) → index ≡ place_among spot.control m.list.items.items → (damage : Rect) → ((x y : ControlRecord) → slice_get (records_of control_loan m) spot.control ≡ Some x → slice_get (records_of control_loan n) spot.control ≡ Some y → IsDamageOf damage x y)
        → IsDrawnFor damage spot.window index (alone (records_of control_loan n)) t u
        → (o r : Opened) → LeavesControls control_loan loan (IsPut c (with_state s)) t o m u r n
    put_shown c s may t u m n spot is changed next index index_is damage damaged redrawn o r kept others slots whole controls =
        let windows = there_is t.windows.records.items spot.window is.window.0 in
        let w : Window V H = windows.item in
        let lies : IsWindowAt t.windows.records.items spot.window w = read_is t.windows.records.items spot.window w windows.there in
        let its : ItsLayer loan control_loan c t m spot is w = layer_there loan control_loan c t m spot is w lies controls.joined in
        let there : its.layer ≡ get_or w.layers.layers index its.layer = subst (λ n. its.layer ≡ get_or w.layers.layers n its.layer) (place_among-seen (kept_seen control_loan) spot.control m.list.items.items ∙ sym index_is) (read_is w.layers.layers _ its.layer its.there) in
        let leaves = redrawn w lies its.layer there (controls_show others (records_of control_loan m)) slots whole in
        let serial : w.serial ≡ c.window = is.window.1 w lies in
        let named : its.layer.part ≡ part.Control c.control = its.is_layer.part ∙ ap (λ k. part.Control k) (names loan control_loan c t m spot is).1 in
        let was = state_showing (controls_show others (records_of control_loan m)) (state_of loan t slots) in
        let windows_are : (desk_of loan u []).windows ≡ (desk_of loan t []).windows = ap (λ (d : FullDesk). d.windows) leaves.1.desk in
        let fonts : u.font ≡ t.font = ap (λ (d : FullDesk). d.font) leaves.1.desk in
        let its_record = record_there loan control_loan c t m spot is in
        let new : ControlRecord = retold (with_state s) changed.definition its_record.item in
        let after : AreWholeControls (desk_of loan t []).windows (record { controls = records_of control_loan n; next = m.list.next; stock = kept }) =
        whole_put s may spot.control (desk_of loan t []).windows (controls_state control_loan m kept) (records_of control_loan n) controls changed in
        let new_there : slice_get (records_of control_loan n) spot.control ≡ Some new =
        ap (λ cs. slice_get cs spot.control) changed.controls ∙ there_edited (retold (with_state s) changed.definition) spot.control (records_of control_loan m) its_record.item its_record.there in
        let same : IsSameOutside damage its.layer (controls_show others (records_of control_loan m) t.font) (alone (records_of control_loan n) u.font) =
        λ p has outside. subst (λ q. alone (records_of control_loan n) u.font q p ≡ controls_show others (records_of control_loan m) t.font q p) (sym its.is_layer.part)
        (ap (λ font. control_bit font (with_serial its_record.item.serial (records_of control_loan n)) p) fonts
        ∙ ap (λ x. control_bit t.font x p) (with_there its_record.item.serial spot.control (records_of control_loan n) new after.apart new_there (same_number its_record.item.serial))
        ∙ damaged its_record.item new its_record.there new_there (All-there IsSettledControl spot.control (records_of control_loan m) its_record.item its_record.there controls.settled).inside t.font p (sym (its.is_layer.region p) ∙ has) outside
        ∙ sym (ap (λ x. control_bit t.font x p) (with_there its_record.item.serial spot.control (records_of control_loan m) its_record.item controls.apart its_record.there (same_number its_record.item.serial)))) in
        let done : IsChangedTo c (with_state s) (control_desk control_loan loan others t o slots m kept) (control_desk control_loan loan others u r slots n kept) = record {
          at = spot.control;
          found = is.control;
          controls = records_of control_loan n;
          changed = changed;
          state = ap (λ k. record { controls = records_of control_loan n; next = k; stock = kept }) next;
        } in (
          leaves.0,
          subst (λ ws. AreWholeControls ws (controls_state control_loan n kept)) (sym windows_are)
              (subst (λ k. AreWholeControls (desk_of loan t []).windows (record { controls = records_of control_loan n; next = k; stock = kept })) (sym next) after),
          record {
            changed = done;
            windows = windows_are;
            shown = λ right. record {
              changed = done;
              redrawn = redrawn_among others (records_of control_loan n) (state_of loan u slots) leaves.0.sound.distinct c.window was (part.Control c.control) refl
                  (subst (λ k. IsLayerRedrawn k (part.Control c.control) was (state_showing (alone (records_of control_loan n)) (state_of loan u slots))) serial
                  (subst (λ q. IsLayerRedrawn w.serial q was (state_showing (alone (records_of control_loan n)) (state_of loan u slots))) named (leaves.1.redrawn right same)));
              others = refl;
              shows = refl;
            };
          },
        )
