-- What holds of a reached state holds after a call about lists, and of no lists and no text records at the beginning.
use Rattle.std.proofs.Common.{◌≡◌, ◌⊎◌, ⊎_elim, inl, inr, ℕ, ◌≤◌, List, [], true, false, Option, None, Some, Result, Ok, Err, sym, ap, ◌∙◌, subst, arith}
use Rattle.std.specs.Prelude.{All}
use Rattle.std.proofs.lemmas.List.Elements.{All-nil, All-same}
use Rattle.tb_geom.specs.declared.refusal.Refusal.{Refusal}
use Rattle.def_iface.specs.ListMeaning.{ListDefinition}
use Rattle.def_iface.specs.Stocks.{IsListFull}
use Rattle.desk_call.specs.declared.activity.Activity.TheVariants.{Idle}
use Rattle.desk_call.specs.declared.list.ListCall.{ListCall}
use Rattle.desk_call.specs.declared.list.ListCall.TheVariants.{GetCell, IsSelected, FirstSelected, NextCell, Search}
use Rattle.desk_call.specs.declared.list.ListReply.{ListReply}
use Rattle.desk_call.specs.Gates.{gate, list_standing}
use Rattle.window_items.specs.Items.{AreApart, are_before, count_of, items_of}
use Rattle.vis_update.specs.Records.{WindowRecord}
use Rattle.window_mgr.specs.FullDesk.{FullDesk}
use Rattle.window_mgr.specs.Refused.{is_missing}
use Rattle.window_frame.specs.Followers.{AreInformed}
use Rattle.control_mgr.specs.InUse.{AreStocked}
use Rattle.control_mgr.specs.WholeControls.{IsTrackable}
use Rattle.list_mgr.specs.ListDesks.{IsListDeskUnchanged, KeptList, ListDesk, ListsState}
use Rattle.list_mgr.specs.ListRefusals.{most_lists}
use Rattle.tb_geom.specs.Rects.{is_in_range}
use Rattle.text_record.specs.Placings.{box_of}
use Rattle.text_mgr.specs.TextDesks.{KeptText, TextsState}
use Rattle.text_mgr.specs.TextLayers.{AreTextLayersOf}
use Rattle.text_mgr.specs.TextRefusals.{most_texts}
use Rattle.text_mgr.specs.WholeTexts.{AreWholeTexts}
use Rattle.list_mgr.specs.ListSteps.{AreListLayers, IsListEffect, IsListStep}
use Rattle.list_mgr.specs.WholeLists.{AreListsApart, AreWholeLists, IsSettledList, slots_of}
use Rattle.list_mgr.proofs.ListFacts.{IsBesideLayers, list_facts}
use Rattle.desk_toolbox.specs.declared.events.Events.{Events}
use Rattle.desk_toolbox.specs.Reached.{AreContentsRight, IsJustBegun, open_window}
use Rattle.desk_toolbox.specs.ToolboxStates.{ToolboxState, with_lists}
use Rattle.desk_toolbox.proofs.ContentsBeside.{IsRightToolbox}
use Rattle.desk_toolbox.proofs.PulledMenus.{same_pull}
use Rattle.desk_toolbox.proofs.StepCounts.{HasSame}
use Rattle.desk_toolbox.proofs.Stands.{Stands, apart_stays, bar_stays, idle_now, stands_still}
use Rattle.desk_toolbox.proofs.Told.{ArePosted}
use Rattle.desk_toolbox.proofs.Totals.{Classing, Has, Ordinary, Present, counted, counting, either_class, has_when, of_class, total}
use Rattle.desk_toolbox.proofs.Tracked.{misled}
use Rattle.desk_toolbox.proofs.TrackedControls.{bare_informed, bare_total, informed_bare, none_used_at, none_whole}
use Rattle.desk_toolbox.specs.KnownLayers.{AreKnown, AreLayersKnown}

-- a call that comes then asks, or nothing is open
pub list_comes_then : (call : ListCall) (answer : ListReply) (before after : ListDesk) → gate before.desk.activity (list_standing call) ≡ None → IsListEffect call answer before after
    → IsListDeskUnchanged before after ⊎ (before.desk.activity ≡ Idle)
list_comes_then (GetCell c) answer before after may done = inl done.1
list_comes_then (IsSelected c) answer before after may done = inl done.1
list_comes_then (FirstSelected c) answer before after may done = inl done.1
list_comes_then (NextCell n) answer before after may done = inl done.1
list_comes_then (Search t) answer before after may done = inl done.1
list_comes_then _ answer before after may done = inr (idle_now before.desk.activity may)

-- the windows are the same but for their layers
pub list_counts : (call : ListCall) (answer : Result ListReply Refusal) (before after : ToolboxState) → IsListStep call answer (with_lists before) (with_lists after) → HasSame before.desk.windows.desk after.desk.windows.desk
list_counts call answer before after step =
    let facts = (list_facts call answer (with_lists before) (with_lists after) step).0 in
    record {
      next = ap (λ (d : FullDesk). d.next) facts.rest;
      count = λ c s. bare_total (counting c s) before.desk.windows.desk.windows after.desk.windows.desk.windows facts.windows;
    }

pub list_stands : (call : ListCall) (answer : Result ListReply Refusal) (before after : ToolboxState) → gate before.desk.activity (list_standing call) ≡ None → Stands before → IsRightToolbox after → IsListStep call answer (with_lists before) (with_lists after) → after.events ≡ before.events → after.menus ≡ before.menus → Stands after
list_stands call (Err e) before after may was right step events menus = stands_still before after step.1.desk.windows.desk step.1.desk.activity step.1.controls menus events was right
list_stands call (Ok answer) before after may was right step events menus = ⊎_elim
    (λ same. stands_still before after same.desk.windows.desk same.desk.activity same.controls menus events was right)
    changed
    (list_comes_then call answer (with_lists before) (with_lists after) may step.1)
  where
    ws : List WindowRecord
    ws = before.desk.windows.desk.windows

    vs : List WindowRecord
    vs = after.desk.windows.desk.windows

    facts : IsBesideLayers (with_lists before) (with_lists after)
    facts = (list_facts call (Ok answer) (with_lists before) (with_lists after) step).0

    activity : after.desk.activity ≡ before.desk.activity
    activity = facts.activity.activity

    count : (c : Classing) (s : ℕ) → counted c s vs ≡ counted c s ws
    count c s = bare_total (counting c s) ws vs facts.windows

    stay : (c : Classing) (o : Option ℕ) → Has c o ws → Has c o vs
    stay c o h = has_when c o ws vs (λ s. let its = count c s in omega arith) h

    changed : before.desk.activity ≡ Idle → Stands after
    changed idle = record {
      right = right.right;
      contents = right.contents;
      trackable = subst (λ a. IsTrackable a after.controls.controls) (sym (activity ∙ idle)) tt;
      active = subst (λ o. Ordinary o vs) (sym (ap (λ (d : FullDesk). d.active) facts.rest)) (stay (of_class false) before.desk.windows.desk.active was.active);
      told = subst (λ (e : Events). Ordinary e.told vs) (sym events) (stay (of_class false) before.events.told was.told);
      opened = subst (λ a. Present (open_window a) vs) (sym activity) (stay either_class (open_window before.desk.activity) was.opened);
      queued = subst (λ (e : Events). ArePosted e.queue.events) (sym events) was.queued;
      informed = bare_informed vs (subst AreInformed (sym facts.windows) (informed_bare ws was.informed));
      tracked = ap (λ a. total (misled a) vs) activity ∙ bare_total (misled before.desk.activity) ws vs facts.windows ∙ was.tracked;
      bar = bar_stays before after (ap (λ (d : FullDesk). d.bar.titles) facts.rest) menus was.bar;
      apart = apart_stays before after menus was.apart;
      pull = same_pull before.desk.activity after.desk.activity before.menus after.menus activity menus was.pull;
    }

-- ---- at the beginning

-- no lists, in no windows
pub no_lists_whole : (windows : List WindowRecord) (s : ListsState) → windows ≡ [] → s.lists ≡ [] → s.next ≡ Some 1 → All IsListFull s.stock → AreWholeLists windows s
no_lists_whole windows s bare none next full = record {
  settled = All-same IsSettledList s.lists [] none (All-nil IsSettledList);
  apart = subst AreListsApart (sym none) tt;
  given = (λ i. are_before (next i) (none i));
  somewhere = All-same (λ (l : KeptList). is_missing l.window windows ≡ false) s.lists [] none (All-nil (λ (l : KeptList). is_missing l.window windows ≡ false));
  few = λ t. subst (λ ls. count_of t ls ≤ most_lists) (sym none) (omega arith);
  joined = All-same (λ (w : WindowRecord). AreListLayers (items_of w.serial s.lists) w.layers) windows [] bare (All-nil (λ (w : WindowRecord). AreListLayers (items_of w.serial s.lists) w.layers));
  stocked = subst (λ own. AreStocked (λ (d : ListDefinition). d.stage) (slots_of own) s.stock) (sym none) (λ k. none_used_at (λ (d : ListDefinition). d.stage) s.stock k full);
}

-- nor text records
pub no_texts_whole : (windows : List WindowRecord) (s : TextsState) → windows ≡ [] → s.texts ≡ [] → s.next ≡ Some 1 → AreWholeTexts windows s
no_texts_whole windows s bare none next = record {
  boxes = All-same (λ (t : KeptText). is_in_range (box_of t.kept.framed t.kept.view) ≡ true) s.texts [] none (All-nil (λ (t : KeptText). is_in_range (box_of t.kept.framed t.kept.view) ≡ true));
  apart = subst (λ ts. AreApart ts) (sym none) tt;
  given = (λ i. are_before (next i) (none i));
  somewhere = All-same (λ (t : KeptText). is_missing t.window windows ≡ false) s.texts [] none (All-nil (λ (t : KeptText). is_missing t.window windows ≡ false));
  few = λ w. subst (λ ts. count_of w ts ≤ most_texts) (sym none) (omega arith);
  joined = All-same (λ (w : WindowRecord). AreTextLayersOf (items_of w.serial s.texts) w.layers) windows [] bare (All-nil (λ (w : WindowRecord). AreTextLayersOf (items_of w.serial s.texts) w.layers));
}

-- nor have they other layers
pub none_known : (windows : List WindowRecord) → windows ≡ [] → AreLayersKnown windows
none_known windows bare = subst AreLayersKnown (sym bare) (All-nil (λ (w : WindowRecord). AreKnown w.layers))

-- no controls, no lists and no text records
pub begun_contents : (s : ToolboxState) → IsJustBegun s → AreContentsRight s
begun_contents s begun = record {
  controls = none_whole s.desk.windows.desk.windows s.controls begun.windows begun.controls begun.next_control begun.held;
  lists = no_lists_whole s.desk.windows.desk.windows s.lists begun.windows begun.lists begun.next_list begun.listed;
  texts = no_texts_whole s.desk.windows.desk.windows s.texts begun.windows begun.texts begun.next_text;
  known = none_known s.desk.windows.desk.windows begun.windows;
  shown = begun.shown;
}
