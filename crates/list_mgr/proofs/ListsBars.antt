-- What holds of a desk with lists between calls holds where the scroll bars of a list are made, set and disposed of.
use Rattle.std.proofs.Common.{◌≡◌, ℕ, Bool, true, false, ◌&&◌, List, map, Option, Some, None, Result, Ok, refl, sym, ap, subst}
use Rattle.std.specs.Prelude.{is_none, slice_get}
use Rattle.std.proofs.lemmas.Bool.{and_parts}
use Rattle.tb_geom.specs.declared.point.Point.{Point}
use Rattle.tb_geom.specs.declared.refusal.Refusal.{Refusal}
use Rattle.control_mgr.specs.Fields.{with_values}
use Rattle.control_values.specs.Settings.{Setting}
use Rattle.desk_layers.specs.declared.part.Part.TheVariants as part
use Rattle.desk_layers.specs.Desk.{IsDesk, on_screen}
use Rattle.desk_layers.specs.Owner.{owner, same_owner}
use Rattle.desk_layers.specs.Owner.Owner.{Content}
use Rattle.desk_layers.specs.Change as plain
use Rattle.desk_layers.proofs.Changing.{stays_right}
use Rattle.desk_layers.proofs.Owning.{same_owner-true}
use Rattle.desk_call.specs.declared.control.ControlCall.{ControlCall}
use Rattle.desk_call.specs.declared.control.ControlCall.TheVariants as control_calls
use Rattle.desk_call.specs.declared.control.ControlOf.{ControlOf}
use Rattle.desk_call.specs.declared.control.ControlReply.{ControlReply}
use Rattle.desk_call.specs.declared.control.ControlReply.TheVariants as control_reply
use Rattle.desk_call.specs.declared.control.NewControl.{NewControl}
use Rattle.desk_call.specs.declared.list.ListOf.{ListOf}
use Rattle.list_view.specs.Bars.{horizontal_setting, vertical_setting}
use Rattle.vis_update.specs.Records.{WindowRecord}
use Rattle.window_mgr.specs.DeskStates.{SameActivity}
use Rattle.window_mgr.specs.FullDesk.{AreSerials, FullDesk, FullState, IsRightState, layered_desk, layered_state}
use Rattle.window_mgr.specs.Refused.{is_missing}
use Rattle.window_mgr.specs.Relayered.{redrawn_change}
use Rattle.window_mgr.proofs.Showing.{distinct_showing}
use Rattle.control_mgr.specs.ControlDesks.{ControlRecord, ControlsState, index_of}
use Rattle.control_mgr.specs.ControlSteps.{IsControlStep, IsSettingPutAt, IsShownAnew}
use Rattle.control_mgr.specs.Settled.{IsSettledControl, MayHaveSetting}
use Rattle.control_mgr.specs.Spots.{with_state}
use Rattle.control_mgr.specs.WholeControls.{AreWholeControls}
use Rattle.control_mgr.proofs.ControlBits.{bare, same_own}
use Rattle.control_mgr.proofs.ControlFacts.{control_facts}
use Rattle.control_mgr.proofs.ControlsKept.{control_behind, control_keeps}
use Rattle.control_mgr.proofs.SerialsFound as controls
use Rattle.control_mgr.proofs.Sets.{state_of_control}
use Rattle.control_mgr.proofs.Settled.{changed_alike, whole_put}
use Rattle.list_mgr.specs.ListDesks.{KeptList, ListDesk, ListsState, list_bit, list_of, lists_show, with_controls, with_serial}
use Rattle.list_mgr.specs.ListSteps.{AreBarsSet, IsBarGone, IsBarGoneIf, IsBarMade, IsBarSet, IsRelined, SameLists}
use Rattle.list_mgr.specs.WholeLists.{AreWholeLists, IsSettledList}
use Rattle.list_mgr.proofs.BarSettings.{bar_may}
use Rattle.list_mgr.proofs.Edited.{Keeps, named_settled}
use Rattle.list_mgr.proofs.ListsKept.{IsRightLists, changed_keeps, unchanged_keeps}
use Rattle.list_mgr.proofs.ListsWhole.{same_whole, whole_behind}
use Rattle.window_items.specs.Items.{with_kept}
use Rattle.window_items.proofs.EditLemmas.{All-there}

-- ---- calls about controls

module _ (before after : ListDesk) (was : IsRightLists before) where
  -- a call about controls keeps what holds of lists
  pub step_keeps : (call : ControlCall) (result : Result ControlReply Refusal) → IsControlStep call result (with_controls before) (with_controls after) → after.lists ≡ before.lists → IsRightLists after
  step_keeps call result step same = record {
    desk = control_keeps call result (with_controls before) (with_controls after) was.desk step;
    lists = subst (AreWholeLists after.desk.windows.desk.windows) (sym same)
        (whole_behind before.desk.windows.desk.windows after.desk.windows.desk.windows before.lists (control_facts call result (with_controls before) (with_controls after) step).0.windows
        (control_behind call result (with_controls before) (with_controls after) was.desk.right.plain.desk was.desk.whole.apart step) was.lists);
  }

  -- ---- a bar that was set

  module _ (c : ControlOf) (setting : Setting) (may : MayHaveSetting setting) (done : IsShownAnew c (with_values setting) (with_controls before) (with_controls after)) (same : SameLists before after) where
    abbrev d : FullDesk
    d = before.desk.windows.desk

    abbrev e : FullDesk
    e = after.desk.windows.desk

    windows_are : e.windows ≡ d.windows
    windows_are = ap (λ (x : FullDesk). x.windows) done.redrawn.desk

    abbrev control : ControlRecord
    control = done.changed.changed.control

    -- the bar, set
    abbrev bar : ControlRecord
    bar = with_values setting control

    one : (x y : ControlRecord) → slice_get before.controls.controls done.changed.at ≡ Some x → slice_get before.controls.controls done.changed.at ≡ Some y → x ≡ y
    one x y there is = cc

    agrees : (x : ControlRecord) → slice_get before.controls.controls done.changed.at ≡ Some x → with_values setting x ≡ with_state (state_of_control bar) x
    agrees x there =
        let is : x ≡ control = one x control there done.changed.changed.there in
        λ i. with_kept (λ k. record k { values = setting; highlight = (is i).kept.highlight; title = (is i).kept.title }) x

    controls_are : AreWholeControls e.windows after.controls
    controls_are =
        subst (λ (x : List WindowRecord × ControlsState). AreWholeControls x.0 x.1) (λ i. (sym windows_are i, sym done.changed.state i))
        (whole_put (state_of_control bar) (record { setting = may; highlight = (All-there IsSettledControl done.changed.at before.controls.controls control done.changed.changed.there was.desk.whole.settled).highlight }) done.changed.at d.windows before.controls done.changed.controls was.desk.whole
        (changed_alike (with_values setting) (with_state (state_of_control bar)) done.changed.at before.controls.controls done.changed.controls agrees done.changed.changed))

    distinct : IsDesk (layered_desk e)
    distinct = subst (λ (x : FullDesk). IsDesk (layered_desk x)) (sym done.redrawn.desk) (distinct_showing (λ font. e.shows) d was.desk.right.plain.desk)

    its_owner : (p : Point) → (on_screen (layered_desk d) p && same_owner (owner (layered_desk d) p) (owner (layered_desk e) p)) ≡ true → owner (layered_desk d) p ≡ owner (layered_desk e) p
    its_owner p there = same_owner-true (owner (layered_desk d) p) (owner (layered_desk e) p) (and_parts (on_screen (layered_desk d) p) (same_owner (owner (layered_desk d) p) (owner (layered_desk e) p)) there).1

    set_right : IsRightState after.desk.windows
    set_right = record {
      plain = stays_right change (layered_state before.desk.windows) (layered_state after.desk.windows) was.desk.right.plain sound done.redrawn.pixels;
      serials = subst (λ (x : FullDesk). AreSerials x.next x.windows) (sym done.redrawn.desk) was.desk.right.serials;
    }
      where
        change : plain.Change
        change = redrawn_change c.window (part.Control c.control)

        sound : plain.IsSound change (layered_state before.desk.windows) (layered_desk e)
        sound = record {
          desk = distinct;
          kept = λ p on content fresh taken put redrawn there.
              same_own (lists_show before.others before.lists.lists) (lists_show after.others after.lists.lists) d e before.controls.controls after.controls.controls was.desk.shows done.shows (ap (λ (x : FullDesk). x.font) done.redrawn.desk)
              (ap (map bare) windows_are) was.desk.whole.joined controls_are.joined (λ o. same_owner o (Content c.window (part.Control c.control)))
              (controls.stay_edited c (with_values setting) (λ x. refl) (with_controls before) (with_controls after) was.desk.whole.apart done.changed)
              (λ s n q was_by now_by other r. ap (λ (x : ListsState). list_bit d.font (with_serial n x.lists) r) same.lists) (λ s n q was_by now_by other r. ap (λ f. f d.font (part.Text n) r) same.others)
              p (owner (layered_desk e) p) was.desk.right.plain.desk distinct (its_owner p there) refl content redrawn;
          right = λ p on taken. absurd (cc);
        }

    pub set_keeps : IsRightLists after
    set_keeps = record {
      desk = record { right = set_right; shows = done.shows; whole = controls_are };
      lists = same_whole before after was.lists windows_are same.lists;
    }

  -- ---- each bar

  put_at_keeps : (o : Option ℕ) (c : ControlOf) (setting : Setting) → MayHaveSetting setting → IsSettingPutAt o c setting (with_controls before) (with_controls after)
      → SameActivity before.desk after.desk → SameLists before after → IsRightLists after
  put_at_keeps None c setting may same activity lists =
      unchanged_keeps before after was (record {
        desk = record {
          windows = record {
            desk = ap (λ (x : FullState). x.desk) same.windows;
            stale = λ p on. ap (λ (x : FullState). x.stale p) same.windows;
            image = λ p on. ap (λ (x : FullState). x.image p) same.windows;
          };
          activity = activity.activity;
          begun = activity.begun;
        };
        controls = same.controls;
        lists = lists.lists;
        others = lists.others;
      })
  put_at_keeps (Some at) c setting may done activity lists = set_keeps c setting may done lists

  -- a bar got a setting, where the window has it still
  pub bar_set_keeps : (window : ℕ) (o : Option ℕ) (setting : Setting) → MayHaveSetting setting → IsBarSet window o setting before after → IsRightLists after
  bar_set_keeps window None setting may same = unchanged_keeps before after was same
  bar_set_keeps window (Some n) setting may done =
      put_at_keeps (index_of (record { window = window; control = n }) before.controls.controls) (record { window = window; control = n }) setting may done.0 done.1 done.2

  gone_if_keeps : (b : Bool) (c : ControlOf) → IsBarGoneIf b c before after → IsRightLists after
  gone_if_keeps true c same = unchanged_keeps before after was same
  gone_if_keeps false c done = step_keeps (control_calls.Dispose c) (Ok control_reply.Done) done.0 done.1.lists

  -- a bar was disposed of, where the window has it still
  pub bar_gone_keeps : (window : ℕ) (o : Option ℕ) → IsBarGone window o before after → IsRightLists after
  bar_gone_keeps window None same = unchanged_keeps before after was same
  bar_gone_keeps window (Some n) done = gone_if_keeps (is_none (index_of (record { window = window; control = n }) before.controls.controls)) (record { window = window; control = n }) done

  -- a bar was made, where one is wanted
  pub bar_made_keeps : (wanted : Bool) (n : NewControl) (serial : Option ℕ) → IsBarMade wanted n serial before after → IsRightLists after
  bar_made_keeps false n serial done = unchanged_keeps before after was done.1
  bar_made_keeps true n serial done = step_keeps (control_calls.New n) (Ok (control_reply.Made done.0.0)) done.0.2 done.1.lists

  -- a control that is made leaves the lists
  pub bar_made_lists : (wanted : Bool) (n : NewControl) (serial : Option ℕ) → IsBarMade wanted n serial before after → after.lists ≡ before.lists
  bar_made_lists false n serial done = done.1.lists
  bar_made_lists true n serial done = done.1.lists

  -- the windows that are missing are so before and after
  pub bar_made_missing : (wanted : Bool) (n : NewControl) (serial : Option ℕ) → IsBarMade wanted n serial before after → (s : ℕ)
      → is_missing s after.desk.windows.desk.windows ≡ is_missing s before.desk.windows.desk.windows
  bar_made_missing false n serial done s = ap (λ (x : FullDesk). is_missing s x.windows) done.1.desk.windows.desk
  bar_made_missing true n serial done s = (control_facts (control_calls.New n) (Ok (control_reply.Made done.0.0)) (with_controls before) (with_controls after) done.0.2).0.missing s

-- ---- both bars of a list

-- the bars of a list were set as its view is
pub bars_set_keep : (l : ListOf) (before after : ListDesk) → IsRightLists before → AreBarsSet l before after → IsRightLists after
bars_set_keep l before after was (x, named, bars) =
    let its = named_settled l before.lists.lists x was.lists.settled named in
    bar_set_keeps bars.0 after
    (bar_set_keeps before bars.0 was l.window x.kept.vertical (vertical_setting x.kept.cells.rows x.kept.view) (bar_may x.kept.view.down x.kept.cells.rows x.kept.view.first.row its.grid.rows_within) bars.1)
    l.window x.kept.horizontal (horizontal_setting x.kept.cells.columns x.kept.view) (bar_may x.kept.view.across x.kept.cells.columns x.kept.view.first.column its.grid.columns_within) bars.2

-- a list was changed so, and its bars were set
pub relined_keeps : (l : ListOf) (f : KeptList → KeptList) → Keeps f → (before after : ListDesk) → IsRightLists before
    → ((x : KeptList) → list_of l before.lists.lists ≡ Some x → IsSettledList x → IsSettledList (f x)) → IsRelined l f before after → IsRightLists after
relined_keeps l f keeps before after was stays (mid, changed, bars) = bars_set_keep l mid after (changed_keeps before mid was l f keeps stays changed) bars
