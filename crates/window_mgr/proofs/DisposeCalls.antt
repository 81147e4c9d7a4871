-- What a call that ends a window leaves.
use Rattle.std.proofs.Common.{◌≡◌, ◌==◌, inr, ℕ, ◌<◌, true, List, [], length, map, None, pos, refl, sym, ap, ◌∙◌, subst}
use Rattle.std.specs.Prelude.{All, Ok, Err}
use Rattle.std.specs.List.{remove}
use Rattle.std.proofs.lemmas.List.Elements.{All-head}
use Rattle.tb_geom.specs.declared.refusal.Refusal.TheVariants.{NoMemory}
use Rattle.def_iface.specs.Slots.{TakenBox}
use Rattle.def_iface.specs.declared.window_def.Stage.TheVariants.{Live}
use Rattle.def_iface.specs.WindowMeaning.{WindowLoan}
use Rattle.def_iface.specs.WindowSlots.{WindowSlot, is_left}
use Rattle.desk_layers.specs.Owner.{frame_bit}
use Rattle.desk_layers.specs.Change.{IsChanged, no_change}
use Rattle.window_list.specs.declared.window.Window.{Window}
use Rattle.vis_update.specs.declared.plan.Plan.{Plan}
use Rattle.vis_update.specs.declared.plan.Touch.{Touch}
use Rattle.vis_update.specs.Records.{WindowRecord, record_of}
use Rattle.desk_call.specs.declared.window.WindowCall.TheVariants.{Dispose}
use Rattle.desk_call.specs.declared.window.WindowReply.TheVariants.{Done}
use Rattle.window_mgr.specs.declared.arrange.Activates.TheVariants.{FrontInItsPlace}
use Rattle.window_mgr.specs.declared.arrange.Activation.{Activation}
use Rattle.window_mgr.specs.declared.manager.WindowManager.{WindowManager}
use Rattle.window_mgr.specs.FullDesk.{FullDesk, layered_state}
use Rattle.window_mgr.specs.Arrange.{desk_activated, desk_arranged, without}
use Rattle.window_mgr.specs.Closing.{IsShut}
use Rattle.window_mgr.specs.Commits.{IsPlanDrawn}
use Rattle.window_mgr.specs.Edits.{IsWindowAt, relit_all}
use Rattle.window_mgr.specs.Effects.{IsWindowDisposed}
use Rattle.window_mgr.specs.Records.{desk_of, state_of, look_on}
use Rattle.window_paint.specs.White.{all_white}
use Rattle.window_mgr.specs.Step.{IsWindowStep}
use Rattle.window_mgr.specs.Whole.{IsWholeManager, IsSettled, LieThere}
use Rattle.window_mgr.specs.Without.{records_without, IsDeskWithout, IsPlanWithout, IsActivationWithout, IsTakenOff}
use Rattle.window_mgr.proofs.LyingThere.{relit_lie, rest_lie}
use Rattle.window_mgr.proofs.KeptWindows.{layers_relit}
use Rattle.window_mgr.proofs.PutIn.{put_in, taken_out, map-put, All-out, IsFree, is_put}
use Rattle.window_mgr.proofs.Rearranged.{stands_lit}
use Rattle.window_mgr.proofs.Disposed.{IsOneOf, left, distinct_left, others_found, sound_left, settled_left, free_of}
use Rattle.window_mgr.proofs.Committing.{turned, quiet_is}
use Rattle.window_mgr.proofs.EditCalls.{relit_records}
use Rattle.window_mgr.proofs.EditSeats.{there_is}
use Rattle.window_mgr.proofs.Steps.{found, not_missing}
use Rattle.window_mgr.proofs.Arranged.{IsArrangedCall, is_left as arranged_is_left, is_whole as arranged_is_whole, spares as arranged_spares}
use Rattle.window_mgr.specs.Sparing.{Spares}

module _ {V : Type 0} {H : V → Type 0} (loan : TakenBox V H → WindowLoan) where
  -- ---- a window of the list, and the rest

  module _ (t : WindowManager V H) (at : ℕ) (w : Window V H) (w_is : IsWindowAt t.windows.records.items at w) (low : at < length t.windows.records.items) where
    windows_were : map (record_of loan) t.windows.records.items ≡ put_in at (record_of loan w) (records_without loan at t)
    windows_were = ap (map (record_of loan)) (taken_out t.windows.records.items at w low w_is) ∙ map-put (record_of loan) at w (remove t.windows.records.items at)

    its_own : (P : WindowRecord → Type 0) → All P (map (record_of loan) t.windows.records.items) → P (record_of loan w)
    its_own P all = All-head P (record_of loan w) (records_without loan at t) (All-out P at (record_of loan w) (records_without loan at t) (subst (All P) windows_were all))

  -- the definition of a window that is taken off is live
  pub is_live : (t new : WindowManager V H) (at : ℕ) (a : Activation) (plan : Plan) (taken : TakenBox V H) → IsTakenOff loan at a plan taken t new → at < length t.windows.records.items
      → All IsSettled (map (record_of loan) t.windows.records.items) → (loan taken).definition.stage ≡ Live
  is_live t new at a plan taken off low all = ap (λ x. (loan x).definition.stage) off.its ∙ (its_own t at off.window off.there low IsSettled all).live

  -- its slot is there, and empty
  pub slot_is_left : (t new : WindowManager V H) (slots : List WindowSlot) (at : ℕ) (a : Activation) (plan : Plan) (taken : TakenBox V H) → IsTakenOff loan at a plan taken t new → at < length t.windows.records.items
      → All (λ v. is_left v.slot slots ≡ true) (map (record_of loan) t.windows.records.items) → is_left (loan taken).slot slots ≡ true
  slot_is_left t new slots at a plan taken off low all = ap (λ x. is_left (loan x).slot slots) off.its ∙ its_own t at off.window off.there low (λ v. is_left v.slot slots ≡ true) all

  -- where memory is wanting, nothing changed
  pub no_memory : (t : WindowManager V H) (slots : List WindowSlot) (s at : ℕ) → IsWholeManager loan t slots → at < length t.windows.records.items → ((w : Window V H) → IsWindowAt t.windows.records.items at w → w.serial ≡ s)
      → IsWindowStep (Dispose s) (Err NoMemory) (state_of loan t slots) (state_of loan t slots)
  no_memory t slots s at whole low serial =
      let w = there_is t.windows.records.items at low in
      (inr (not_missing loan t t slots whole at s w.0 low w.1 (serial w.0 w.1), (refl, refl)), record { desk = refl; stale = λ p on. refl; image = λ p on. refl })

  -- the rest is settled, whichever of it becomes active
  pub rest_settled : (t : WindowManager V H) (at : ℕ) (a : Activation) → at < length t.windows.records.items → All IsSettled (map (record_of loan) t.windows.records.items)
      → All IsSettled (map (record_of loan) (relit_all a t.windows.active (remove t.windows.records.items at)))
  rest_settled t at a low all =
      let w = there_is t.windows.records.items at low in
      subst (All IsSettled) (sym (relit_records loan a t.windows.active (remove t.windows.records.items at)))
      (settled_left (desk_of loan t []) w.0.serial at (record_of loan w.0) (records_without loan at t) (record { windows = windows_were t at w.0 w.1 low; serial = refl }) a [] all)

  -- ---- all that is known where a call ended a window

  pub record IsDisposeCall (s at : ℕ) (activation : Activation) (plan : Plan) (taken : TakenBox V H) (t new : WindowManager V H) (slots now : List WindowSlot) : Type 0 where
    pub whole : IsWholeManager loan t slots
    pub low : at < length t.windows.records.items
    pub serial : (w : Window V H) → IsWindowAt t.windows.records.items at w → w.serial ≡ s
    pub becomes : IsActivationWithout loan at s t activation
    pub planned : IsPlanWithout loan at s t plan
    pub off : IsTakenOff loan at activation plan taken t new
    pub shut : IsShut (loan taken) slots now

  module _ (s at : ℕ) (activation : Activation) (plan : Plan) (taken : TakenBox V H) (t new : WindowManager V H) (slots now : List WindowSlot) (N : IsDisposeCall s at activation plan taken t new slots now) where
    abbrev w : Window V H
    w = N.off.window

    abbrev rest : List WindowRecord
    rest = records_without loan at t

    serial : w.serial ≡ s
    serial = N.serial w N.off.there

    one : IsOneOf (desk_of loan t slots) s at (record_of loan w) rest
    one = record { windows = windows_were t at w N.off.there N.low; serial = serial }

    abbrev after : FullDesk
    after = left (desk_of loan t slots) s at (record_of loan w) rest one activation now

    abbrev touch : Touch
    touch = record { window = s; by = None; whole = true }

    shut : IsShut (loan w.taken) slots now
    shut = subst (λ (x : TakenBox V H). IsShut (loan x) slots now) N.off.its N.shut

    windows_are : map (record_of loan) new.windows.records.items ≡ after.windows
    windows_are = ap (map (record_of loan)) N.off.windows ∙ relit_records loan activation t.windows.active (remove t.windows.records.items at)

    drawn : IsPlanDrawn plan None t.font after.windows t.screen new.screen
    drawn = subst (λ ws. IsPlanDrawn plan None t.font ws t.screen new.screen) windows_are N.off.drawn

    desk_without : IsDeskWithout loan at t after
    desk_without = record {
      distinct = distinct_left (desk_of loan t slots) s at (record_of loan w) rest one activation now N.whole.sound.distinct;
      screen = refl;
      stands = stands_lit t.windows.active activation rest;
      layers = layers_relit activation t.windows.active rest;
    }

    dispose_arranged : IsArrangedCall loan touch t new slots now after (remove t.areas.items at) plan
    dispose_arranged = record {
      whole = N.whole;
      screen = refl;
      sound = sound_left (desk_of loan t slots) s at (record_of loan w) rest one activation now N.whole.sound shut;
      frames = λ n p quiet. ap (λ o. frame_bit o p) (others_found (desk_of loan t slots) s at (record_of loan w) rest one activation now N.whole.sound.distinct n (turned n s (quiet_is (n == s) quiet)));
      planned = N.planned after desk_without;
      drawn = drawn;
      desk_is = λ i. record {
        width = pos (drawn.width i);
        height = pos (drawn.height i);
        bar = N.off.bar i;
        font = N.off.font i;
        shows = all_white;
        windows = windows_are i;
        active = N.off.active i;
        next = N.off.next i;
        stock = now;
      };
      areas = N.off.areas;
      desktop = N.off.desktop;
      gray = N.off.gray;
      lie = subst (All LieThere) (sym N.off.windows) (relit_lie activation t.windows.active (remove t.windows.records.items at) (rest_lie t.windows.records.items at w N.low N.off.there N.whole.layers));
    }

    closed : IsWindowDisposed s (state_of loan t slots) (state_of loan new now)
    closed = record {
      window = record_of loan w;
      found = found loan t new slots N.whole at s w N.low N.off.there serial;
      shut = shut;
      desk = left_is.0 ∙ after_is;
      pixels = left_is.1;
    }
      where
        left_is : (desk_of loan new now ≡ after) × IsChanged no_change (layered_state (state_of loan t slots)) (layered_state (state_of loan new now))
        left_is = arranged_is_left loan touch t new slots now after (remove t.areas.items at) plan dispose_arranged

        free : IsFree (look_on t) s rest
        free = free_of (desk_of loan t slots) s at (record_of loan w) rest one activation now N.whole.sound.distinct

        rest_is : without s (desk_of loan t slots).windows ≡ rest
        rest_is = ap (without s) one.windows ∙ (is_put (look_on t) s at (record_of loan w) rest serial free).others

        after_is : after ≡ record (desk_arranged (without s (desk_of loan t slots).windows) FrontInItsPlace s (desk_of loan t slots)) { stock = now }
        after_is =
            ap (λ a. record (desk_activated rest a (desk_of loan t slots)) { stock = now }) N.becomes
            ∙ ap (λ ws. record (desk_arranged ws FrontInItsPlace s (desk_of loan t slots)) { stock = now }) (sym rest_is)

    -- and it writes no more on the screen
    pub dispose_spares : Spares loan s None t new
    dispose_spares = arranged_spares loan touch t new slots now after (remove t.areas.items at) plan dispose_arranged

    -- it is whole after the call, which made its step
    pub dispose_done : IsWholeManager loan new now × IsWindowStep (Dispose s) (Ok Done) (state_of loan t slots) (state_of loan new now)
    dispose_done = (
      arranged_is_whole loan touch t new slots now after (remove t.areas.items at) plan dispose_arranged,
      (not_missing loan t new slots N.whole at s w N.low N.off.there serial, (refl, closed)),
    )
