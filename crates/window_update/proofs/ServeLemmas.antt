-- What is told of an update, and its steps.
use Rattle.std.proofs.Common.{◌≡◌, inl, inr, ℕ, Bool, true, false, ◌==◌, if◌then◌else◌, List, [], ◌∷◌, Option, None, Some, Result, Ok, Err, refl, sym, ap, ◌∙◌, subst}
use Rattle.std.specs.Prelude.{is_none, nat_abs, slice_index_or}
use Rattle.tb_geom.specs.declared.point.Point.{Point}
use Rattle.tb_geom.specs.declared.refusal.Refusal.{Refusal}
use Rattle.tb_geom.specs.declared.refusal.Refusal.TheVariants.{NoMemory, NoSuchWindow}
use Rattle.tb_geom.specs.Points.{PixelSet, plus}
use Rattle.tb_geom.specs.Pixels.{Pixels, holds}
use Rattle.region_bytes.specs.Bytes.{IsUnwritten}
use Rattle.desk_layers.proofs.Owning.{same_number}
use Rattle.def_iface.specs.Slots.{TakenBox}
use Rattle.def_iface.specs.WindowMeaning.{WindowLoan}
use Rattle.def_iface.specs.WindowSlots.{WindowSlot}
use Rattle.desk_call.specs.declared.activity.Activity.{Activity}
use Rattle.desk_call.specs.declared.activity.Activity.TheVariants.{Idle, Updating}
use Rattle.desk_call.specs.declared.update.LayerDraw.{LayerDraw}
use Rattle.desk_call.specs.declared.update.LayerKind.{LayerKind}
use Rattle.desk_call.specs.declared.update.UpdateCall.{UpdateCall}
use Rattle.desk_call.specs.declared.update.UpdateCall.TheVariants as asks
use Rattle.desk_call.specs.declared.window.WindowReply.{WindowReply}
use Rattle.desk_call.specs.declared.window.WindowReply.TheVariants.{Done}
use Rattle.desk_call.specs.declared.nature.Asked.{Asked}
use Rattle.desk_call.specs.declared.nature.Asked.TheVariants.{VisibleRegion, UpdateRegion}
use Rattle.window_list.specs.declared.window.Window.{Window}
use Rattle.desk_layers.specs.declared.part.Part.{Part}
use Rattle.desk_layers.specs.Owner.{Owner, owner}
use Rattle.vis_update.specs.declared.area.Area.{Area}
use Rattle.vis_update.specs.Areas.{is_content_of, stale_in}
use Rattle.vis_update.specs.Records.{WindowRecord, record_of}
use Rattle.window_mgr.specs.declared.manager.WindowManager.{WindowManager}
use Rattle.window_mgr.specs.Edits.{IsWindowAt, StandsAt}
use Rattle.window_mgr.specs.Finding.{record_with}
use Rattle.window_mgr.specs.FullDesk.{FullDesk, FullState, layered_desk}
use Rattle.window_mgr.specs.Kept.{IsKept}
use Rattle.window_mgr.specs.Records.{desk_of, state_of, state_showing}
use Rattle.tb_geom.specs.Refusals.{first_refusal}
use Rattle.window_mgr.specs.Refused.{window_refusals}
use Rattle.window_mgr.specs.Telling.{IsNotTold}
use Rattle.window_mgr.specs.Updating.{LeavesShowing, IsRefreshed, is_of_kind}
use Rattle.window_mgr.proofs.Showing.{update_showing}
use Rattle.window_mgr.proofs.UpdateSteps.{stays_refreshed}
use Rattle.window_mgr.proofs.EditSeats.{there_is}
use Rattle.window_mgr.proofs.TellLemmas as telling
use Rattle.window_mgr.specs.DeskStates.{Opened, narrowed_to, desk_with, LeavesDeskShowing}
use Rattle.window_update.specs.declared.choices.Choices.{Choices}
use Rattle.window_update.specs.declared.choices.Kinds.{Kinds}
use Rattle.window_update.specs.declared.updates.Updates.{Updates}
use Rattle.window_update.specs.Choosing.{has_kind, with_kind, IsFurther, left_for, AreChoices}
use Rattle.window_update.specs.WholeUpdates.{IsWholeUpdates}
use Rattle.window_update.proofs.OpenLemmas.{choices_left}
use Rattle.window_update.proofs.Sides.{begun_whole}
use Rattle.window_update.proofs.ChoiceLemmas.{kind_chosen}
use Rattle.window_update.specs.UpdateSteps.{AreDrawn, IsUpdateStep}

-- a region that is not written is not told
pub not_told : (region : Pixels) (e : Refusal) → IsUnwritten region e → (set : PixelSet) → ((p : Point) → holds region p ≡ set p) → IsNotTold set e
not_told region e (inl (is, long)) set same = inl (is, (region, same, long))
not_told region e (inr (is, written)) set same = inr (is, (region, same, written))

-- what is told of the window whose update is open
pub narrowed_visible : (asks : Asked) (activity : Activity) (begun : PixelSet) (o w : ℕ) → activity ≡ Updating o → w ≡ o → asks ≡ VisibleRegion w → narrowed_to asks activity begun ≡ Some begun
narrowed_visible asks activity begun o w is same asked =
    (λ i. narrowed_to (asked i) (is i) begun) ∙ ap (λ b. if b then Some begun else None) (ap (λ n. o == n) same ∙ same_number o)

pub narrowed_update : (asks : Asked) (activity : Activity) (begun : PixelSet) (o w : ℕ) → activity ≡ Updating o → w ≡ o → asks ≡ UpdateRegion w → narrowed_to asks activity begun ≡ Some (λ p. false)
narrowed_update asks activity begun o w is same asked =
    (λ i. narrowed_to (asked i) (is i) begun) ∙ ap (λ b. if b then Some (λ p. false) else None) (ap (λ n. o == n) same ∙ same_number o)

-- the step of a call is that of the call that it is
pub of_call : {V : Type 0} {H : V → Type 0} (loan : TakenBox V H → WindowLoan) (shows : List ℕ → Part → PixelSet) (t new : WindowManager V H) (u after : Opened) (call other : UpdateCall) (result : Result WindowReply Refusal) → call ≡ other
    → LeavesDeskShowing loan shows (IsUpdateStep other result) t u new after → LeavesDeskShowing loan shows (IsUpdateStep call result) t u new after
of_call loan shows t new u after call other result is step = subst (λ k. LeavesDeskShowing loan shows (IsUpdateStep k result) t u new after) (sym is) step

-- ---- an update begun and drawn

module _ {V : Type 0} {H : V → Type 0} (loan : TakenBox V H → WindowLoan) (shows : List ℕ → Part → PixelSet) (t : WindowManager V H) (kept : IsKept loan t) (s at : ℕ) (stands : StandsAt t.windows.records.items s at) where
  here : (x : Window V H) × (IsWindowAt t.windows.records.items at x)
  here = there_is t.windows.records.items at stands.0

  abbrev x : Window V H
  x = here.0

  abbrev was : List WindowSlot → FullState
  was slots = state_showing shows (state_of loan t slots)

  found : record_with s (desk_of loan t []).windows ≡ Some (record_of loan x)
  found = telling.found loan t kept s at x stands.0 here.1 (stands.1 x here.1)

  -- nothing refuses a call about the window
  pub free : (slots : List WindowSlot) → first_refusal (window_refusals s (was slots).desk) ≡ None
  free slots = ap (λ (o : Option WindowRecord). first_refusal ((is_none o, NoSuchWindow) ∷ [])) found

  -- but want of memory
  pub no_memory : (u : Opened) → LeavesDeskShowing loan shows (IsUpdateStep (asks.Begin s) (Err NoMemory)) t u t u
  no_memory u slots whole = (whole, (inr (free slots, (refl, refl)), record { windows = record { desk = refl; stale = λ p on. refl; image = λ p on. refl }; activity = refl; begun = refl }))

  -- its update is begun by its update region, as the window sees it
  pub is_begun : (u new : Opened) (region : Pixels) (w : Window V H) (a : Area) → IsWindowAt t.windows.records.items at w → a ≡ slice_index_or t.areas.items at a
      → ((p : Point) → holds region p ≡ holds a.update (plus p w.place)) → new ≡ record { activity = Updating s; begun = λ p. holds region p }
      → LeavesDeskShowing loan shows (IsUpdateStep (asks.Begin s) (Ok Done)) t u t new
  is_begun u new region w a w_is a_is seen is_open slots whole = (
    whole,
    (
      free slots,
      (
        refl,
        record {
          windows = record { desk = refl; stale = λ p on. refl; image = λ p on. refl };
          opened = ap (λ (o : Opened). o.activity) is_open;
          begun = λ p. ap (λ (o : Opened). o.begun p) is_open ∙ seen p ∙ telling.update_seen loan t kept s at w stands.0 w_is (stands.1 w w_is) a a_is p ∙ sym (update_showing shows (state_of loan t slots) s p);
        },
      ),
    ),
  )

  module _ (these : ℕ → Owner → Bool) (new : WindowManager V H) (leaves : (w : Window V H) → IsWindowAt t.windows.records.items at w → LeavesShowing loan shows (IsRefreshed (these w.serial)) t new) where
    -- these layers of it were drawn
    pub refreshed : LeavesShowing loan shows (IsRefreshed (these s)) t new
    refreshed = subst (λ n. LeavesShowing loan shows (IsRefreshed (these n)) t new) (stands.1 x here.1) (leaves x here.1)

    -- the screen has the same sides
    pub same_width : new.screen.width ≡ t.screen.width
    same_width = ap (λ (d : FullDesk). nat_abs d.width) (refreshed kept.slots kept.whole).1.desk

    pub same_height : new.screen.height ≡ t.screen.height
    same_height = ap (λ (d : FullDesk). nat_abs d.height) (refreshed kept.slots kept.whole).1.desk

  -- what is kept for the update is whole then
  pub drawn_whole : (kind : LayerKind) (new : WindowManager V H) → LeavesShowing loan shows (AreDrawn kind s) t new → (u : Updates) (c : Choices) → IsWholeUpdates loan (Updating s) t u → has_kind u.choices.drawn kind ≡ false
      → c.drawn ≡ with_kind kind u.choices.drawn → ((k : Kinds) → IsFurther (with_kind kind u.choices.drawn) k → left_for c k ≡ left_for u.choices k)
      → IsWholeUpdates loan (Updating s) new (record u { choices = c })
  drawn_whole kind new leaves u c whole lacks counted others =
      let left = leaves kept.slots kept.whole in
      begun_whole loan new s (record u { choices = c })
      (whole.width ∙ sym (ap (λ (d : FullDesk). nat_abs d.width) left.1.desk)) (whole.height ∙ sym (ap (λ (d : FullDesk). nat_abs d.height) left.1.desk))
      (choices_left loan shows t kept new kind s u.choices c (whole.choices s refl) lacks counted others leaves)

  -- the window is served where all its content was drawn, once no update is open
  pub served : (new : WindowManager V H) → LeavesShowing loan shows (IsRefreshed (is_content_of s)) t new → (u after : Opened) (result : Result WindowReply Refusal) → after.activity ≡ Idle → result ≡ Ok Done → LeavesDeskShowing loan shows (IsUpdateStep (asks.Serve s) result) t u new after
  served new drawn u after result idle done slots whole =
      let left = drawn slots whole in
      (left.0, subst (λ r. IsUpdateStep (asks.Serve s) r (desk_with u (was slots)) (desk_with after (state_showing shows (state_of loan new slots)))) (sym done) (free slots, (refl, (idle, left.1))))

-- what is kept is whole for what is open, by whatever name that goes
pub open_whole : {V : Type 0} {H : V → Type 0} (loan : TakenBox V H → WindowLoan) (t : WindowManager V H) (a b : Activity) (u : Updates) → a ≡ b → IsWholeUpdates loan a t u → IsWholeUpdates loan b t u
open_whole loan t a b u same whole = subst (λ k. IsWholeUpdates loan k t u) same whole

-- layers were drawn
pub are_drawn : {V : Type 0} {H : V → Type 0} (loan : TakenBox V H → WindowLoan) (shows : List ℕ → Part → PixelSet) (t : WindowManager V H) (kept : IsKept loan t) (d : LayerDraw) (at : ℕ) → StandsAt t.windows.records.items d.window at → (u : Opened) (new : WindowManager V H)
    → LeavesShowing loan shows (AreDrawn d.layers d.window) t new → LeavesDeskShowing loan shows (IsUpdateStep (asks.Draw d) (Ok Done)) t u new u
are_drawn loan shows t kept d at stands u new leaves slots whole =
    let left = leaves slots whole in
    (left.0, (free loan shows t kept d.window at stands slots, (refl, (record { activity = refl; begun = refl }, left.1))))

-- layers that were drawn before in the update are drawn where nothing changes
pub drawn_before : {V : Type 0} {H : V → Type 0} (loan : TakenBox V H → WindowLoan) (shows : List ℕ → Part → PixelSet) (t : WindowManager V H) (kind : LayerKind) (s : ℕ) (c : Choices)
    → AreChoices s (layered_desk (desk_of loan t [])) (stale_in t.areas.items) c → has_kind c.drawn kind ≡ true → LeavesShowing loan shows (AreDrawn kind s) t t
drawn_before loan shows t kind s c choices has slots whole =
    (whole, stays_refreshed loan t slots whole shows (is_of_kind kind s) (λ p on e. choices.fresh p on (kind_chosen kind c.drawn s (owner (layered_desk (desk_of loan t [])) p) has e)))
