-- What any call about lists leaves of the rest of a desk.
use Rattle.std.proofs.Common.{◌≡◌, inl, inr, ℕ, zero, suc, Bool, true, false, not, ◌+◌, List, ◌∷◌, [], ◌++◌, map, Option, None, Some, Result, Ok, Err, refl, sym, ap, ◌∙◌, subst}
use Rattle.std.specs.Prelude.{IfSome, if◌then◌else◌, is_none, slice_get, slice_set}
use Rattle.std.specs.Option.{option_map_or}
use Rattle.tb_geom.specs.declared.refusal.Refusal.{Refusal}
use Rattle.tb_geom.specs.declared.refusal.Refusal.TheVariants.{NoSuchList, NoSuchWindow, OutOfRange}
use Rattle.tb_geom.specs.Rects.{in_plane}
use Rattle.tb_geom.specs.Refusals.{first_refusal}
use Rattle.desk_layers.specs.declared.part.Part.{Part}
use Rattle.def_iface.specs.declared.window_def.Stage.{Stage}
use Rattle.def_iface.specs.ListMeaning.{ListDefinition}
use Rattle.def_iface.specs.Slots.{IsPutBack, IsTaken, LoanOf, SlotOf, holding, is_left}
use Rattle.control_values.specs.Settings.{Setting}
use Rattle.desk_call.specs.declared.control.ControlCall.{ControlCall}
use Rattle.desk_call.specs.declared.control.ControlCall.TheVariants as control_calls
use Rattle.desk_call.specs.declared.control.ControlOf.{ControlOf}
use Rattle.desk_call.specs.declared.control.ControlReply.{ControlReply}
use Rattle.desk_call.specs.declared.control.ControlReply.TheVariants as control_reply
use Rattle.desk_call.specs.declared.control.NewControl.{NewControl}
use Rattle.desk_call.specs.declared.list.ListCall.{ListCall}
use Rattle.desk_call.specs.declared.list.ListCall.TheVariants.{New, Dispose, AddRows, AddColumns, DeleteRows, DeleteColumns, SetCell, AddToCell, ClearCell, GetCell, Select, IsSelected, FirstSelected, NextCell, Search, Click, Scroll, SetDrawing}
use Rattle.desk_call.specs.declared.list.ListClick.{ListClick}
use Rattle.desk_call.specs.declared.list.ListOf.{ListOf}
use Rattle.desk_call.specs.declared.list.ListReply.{ListReply}
use Rattle.desk_call.specs.declared.list.ListReply.TheVariants as reply
use Rattle.desk_call.specs.declared.list.NewList.{NewList}
use Rattle.window_list.specs.declared.layer.Layer.{Layer}
use Rattle.list_cells.specs.declared.cell.Cell.{Cell}
use Rattle.list_cells.specs.Grids.{Grid}
use Rattle.window_items.specs.Items.{serial_after}
use Rattle.vis_update.specs.Records.{WindowRecord}
use Rattle.window_mgr.specs.DeskStates.{SameActivity}
use Rattle.window_mgr.specs.Finding.{record_with}
use Rattle.window_mgr.specs.FullDesk.{FullDesk, FullState}
use Rattle.window_mgr.specs.Refused.{is_missing}
use Rattle.window_mgr.proofs.SlotLemmas.{map-set}
use Rattle.control_mgr.specs.ControlDesks.{ControlsState, index_of}
use Rattle.control_mgr.specs.ControlSteps.{IsControlStep, IsSettingPutAt}
use Rattle.control_mgr.proofs.ControlBits.{bare, bare_laid}
use Rattle.control_mgr.proofs.ControlFacts.{control_facts, kinds_of}
use Rattle.control_mgr.proofs.ControlsWhole.{front_fails}
use Rattle.control_mgr.proofs.Steps.{none_hold}
use Rattle.list_mgr.specs.ListDesks as lists
use Rattle.list_mgr.specs.ListDesks.{IsListDeskUnchanged, KeptList, ListDesk, ListSlot, ListsState, list_of, with_controls}
use Rattle.list_mgr.specs.ListRefusals.{bars_wanted, cell_refusals, is_word, list_refusals, missing_refusals, of_list}
use Rattle.list_mgr.specs.ListSteps.{AreBarsSet, AreLaid, IsBarGone, IsBarGoneIf, IsBarMade, IsBarSet, IsChangedTo, IsClickOn, IsListDisposed, IsListEffect, IsListGone, IsListMade, IsListPut, IsListStep, IsRelined, IsSeenOrNot, IsToggledOrNot, IsUnseen, clicked_at}

-- the kinds that the stock of lists has slots for
abbrev pub list_kinds_of : ListsState → List (List ℕ)
list_kinds_of s = map (λ (slot : ListSlot). slot.kind) s.stock

-- the desk is the same but for its windows' layers and what is shown of them, and so is what is open, and the stocks have slots
-- for the same kinds
pub record IsBesideLayers (before after : ListDesk) : Type 0 where
  pub windows : map bare after.desk.windows.desk.windows ≡ map bare before.desk.windows.desk.windows
  pub rest : after.desk.windows.desk ≡ record before.desk.windows.desk { windows = after.desk.windows.desk.windows; shows = after.desk.windows.desk.shows }
  pub activity : SameActivity before.desk after.desk
  pub kinds : kinds_of after.controls ≡ kinds_of before.controls
  pub list_kinds : list_kinds_of after.lists ≡ list_kinds_of before.lists

-- so, and the next control and the next list get the serials that they would have got
record KeepsNext (before after : ListDesk) : Type 0 where
  beside : IsBesideLayers before after
  control : after.controls.next ≡ before.controls.next
  list : after.lists.next ≡ before.lists.next

-- so many serials are taken from the one that is next, if one is, and this is next then
abbrev pub IsNextAfter : ℕ → Option ℕ → Option ℕ → Type 0
IsNextAfter zero before after = after ≡ before
IsNextAfter (suc k) before after = (n : ℕ) × (before ≡ Some n) × IsNextAfter k (serial_after n) after

-- a new list takes the next serial, which its call answers, and as many of controls as it has scroll bars; every other call
-- leaves them
abbrev pub IsNextList : ListCall → Result ListReply Refusal → ListDesk → ListDesk → Type 0
IsNextList (New n) (Ok answer) before after =
    ((serial : ℕ) × (answer ≡ reply.Made serial) × (before.lists.next ≡ Some serial) × (after.lists.next ≡ serial_after serial))
    × IsNextAfter (bars_wanted n) before.controls.next after.controls.next
IsNextList _ _ before after = (after.lists.next ≡ before.lists.next) × (after.controls.next ≡ before.controls.next)

-- ---- one after the other

and_beside : (a b c : ListDesk) → IsBesideLayers a b → IsBesideLayers b c → IsBesideLayers a c
and_beside a b c first second = record {
  windows = second.windows ∙ first.windows;
  rest = second.rest ∙ (λ i. record (first.rest i) { windows = c.desk.windows.desk.windows; shows = c.desk.windows.desk.shows });
  activity = record { activity = second.activity.activity ∙ first.activity.activity; begun = second.activity.begun ∙ first.activity.begun };
  kinds = second.kinds ∙ first.kinds;
  list_kinds = second.list_kinds ∙ first.list_kinds;
}

and_next : (a b c : ListDesk) → KeepsNext a b → KeepsNext b c → KeepsNext a c
and_next a b c first second = record { beside = and_beside a b c first.beside second.beside; control = second.control ∙ first.control; list = second.list ∙ first.list }

-- ---- slots

module _ {D : Type 0} where
  abbrev KindsOf : List (SlotOf D) → List (List ℕ)
  KindsOf slots = map (λ (s : SlotOf D). s.kind) slots

  back_kinds : (loan : LoanOf D) (old new : List (SlotOf D)) → is_left loan.slot old ≡ true → IsPutBack loan old new → KindsOf new ≡ KindsOf old
  back_kinds loan old new left back = by_slot (slice_get old loan.slot) refl left back
    where
      by_slot : (o : Option (SlotOf D)) → slice_get old loan.slot ≡ o → option_map_or (λ (s : SlotOf D). is_none s.held) o false ≡ true
          → IfSome o (λ s. new ≡ slice_set old loan.slot (holding (Some loan.definition) s)) → KindsOf new ≡ KindsOf old
      by_slot None there empty is = absurd (cc)
      by_slot (Some s) there empty is = ap KindsOf is ∙ map-set (λ (x : SlotOf D). x.kind) old loan.slot s (holding (Some loan.definition) s) there refl

  taken_kinds : (stage : D → Stage) (kind : List ℕ) (loan : LoanOf D) (old new : List (SlotOf D)) → IsTaken stage kind loan old new → KindsOf new ≡ KindsOf old
  taken_kinds stage kind loan old new took =
      ap KindsOf took.left
      ∙ map-set (λ (x : SlotOf D). x.kind) old loan.slot (record { kind = kind; held = Some loan.definition }) (record { kind = kind; held = None }) took.held refl

-- ---- the rest of a desk

-- the desk is the same in all but its windows and what they show
rest_of : (before after : FullDesk) → after.width ≡ before.width → after.height ≡ before.height → after.bar ≡ before.bar → after.font ≡ before.font → after.active ≡ before.active → after.next ≡ before.next
    → after.stock ≡ before.stock → after ≡ record before { windows = after.windows; shows = after.shows }
rest_of before after width height bar font active next stock = λ i. record {
  width = width i;
  height = height i;
  bar = bar i;
  font = font i;
  shows = after.shows;
  windows = after.windows;
  active = active i;
  next = next i;
  stock = stock i;
}

pub there_window : (o : Option WindowRecord) → is_none o ≡ false → (w : WindowRecord) × (o ≡ Some w)
there_window None e = absurd (cc)
there_window (Some w) e = (w, refl)

-- ---- the parts of a call

module _ (before after : ListDesk) where
  still : IsListDeskUnchanged before after → KeepsNext before after
  still same = record {
    beside = record {
      windows = ap (λ (d : FullDesk). map bare d.windows) same.desk.windows.desk;
      rest = λ i. record (same.desk.windows.desk i) { windows = after.desk.windows.desk.windows; shows = after.desk.windows.desk.shows };
      activity = record { activity = same.desk.activity; begun = same.desk.begun };
      kinds = ap kinds_of same.controls;
      list_kinds = ap list_kinds_of same.lists;
    };
    control = ap (λ (s : ControlsState). s.next) same.controls;
    list = ap (λ (s : ListsState). s.next) same.lists;
  }

  -- a list was changed, and what layers show
  changed : (l : ListOf) (f : KeptList → KeptList) → IsChangedTo l f before after → after.desk.windows.desk ≡ record before.desk.windows.desk { shows = after.desk.windows.desk.shows } → KeepsNext before after
  changed l f done desk = record {
    beside = record {
      windows = ap (λ (d : FullDesk). map bare d.windows) desk;
      rest = λ i. record (desk i) { windows = after.desk.windows.desk.windows; shows = after.desk.windows.desk.shows };
      activity = done.beside.activity;
      kinds = ap kinds_of done.beside.controls;
      list_kinds = ap list_kinds_of done.lists;
    };
    control = ap (λ (s : ControlsState). s.next) done.beside.controls;
    list = ap (λ (s : ListsState). s.next) done.lists;
  }

  unseen : (l : ListOf) (f : KeptList → KeptList) (x : KeptList) → IsUnseen l f x before after → KeepsNext before after
  unseen l f x (inl same) = still same.1
  unseen l f x (inr its) = changed l f its.1.changed its.1.marked.desk

  seen : (b : Bool) (l : ListOf) (f : KeptList → KeptList) (x : KeptList) → IsSeenOrNot b l f x before after → KeepsNext before after
  seen true l f x its = changed l f its.changed its.redrawn.desk
  seen false l f x done = unseen l f x done

  selected : (b : Bool) (l : ListOf) (g : Grid → Grid) (x : KeptList) → is_missing l.window before.desk.windows.desk.windows ≡ false → IsToggledOrNot b l g x before after → KeepsNext before after
  selected true l g x there its =
      let window = there_window (record_with l.window before.desk.windows.desk.windows) there in
      changed l _ its.changed (its.toggled window.0 window.1).desk
  selected false l g x there done = unseen l _ x done

  -- a call about a control
  by_control : (call : ControlCall) (result : Result ControlReply Refusal) → IsControlStep call result (with_controls before) (with_controls after) → SameActivity before.desk after.desk → after.lists ≡ before.lists → IsBesideLayers before after
  by_control call result step activity lists =
      let facts = (control_facts call result (with_controls before) (with_controls after) step).0 in
      record {
        windows = facts.windows;
        rest = rest_of before.desk.windows.desk after.desk.windows.desk facts.width facts.height facts.bar facts.font facts.active facts.next facts.stock;
        activity = activity;
        kinds = facts.kinds;
        list_kinds = ap list_kinds_of lists;
      }

  -- a scroll bar was set, if the window has it still
  put_at : (o : Option ℕ) (c : ControlOf) (setting : Setting) → IsSettingPutAt o c setting (with_controls before) (with_controls after) → SameActivity before.desk after.desk → after.lists ≡ before.lists → KeepsNext before after
  put_at None c setting same activity lists = record {
    beside = record {
      windows = ap (λ (s : FullState). map bare s.desk.windows) same.windows;
      rest = λ i. record ((same.windows i).desk) { windows = after.desk.windows.desk.windows; shows = after.desk.windows.desk.shows };
      activity = activity;
      kinds = ap kinds_of same.controls;
      list_kinds = ap list_kinds_of lists;
    };
    control = ap (λ (s : ControlsState). s.next) same.controls;
    list = ap (λ (s : ListsState). s.next) lists;
  }
  put_at (Some at) c setting done activity lists = record {
    beside = record {
      windows = ap (λ (d : FullDesk). map bare d.windows) done.redrawn.desk;
      rest = λ i. record (done.redrawn.desk i) { windows = after.desk.windows.desk.windows; shows = after.desk.windows.desk.shows };
      activity = activity;
      kinds = ap kinds_of done.changed.state;
      list_kinds = ap list_kinds_of lists;
    };
    control = ap (λ (s : ControlsState). s.next) done.changed.state;
    list = ap (λ (s : ListsState). s.next) lists;
  }

  bar_set : (window : ℕ) (o : Option ℕ) (setting : Setting) → IsBarSet window o setting before after → KeepsNext before after
  bar_set window None setting same = still same
  bar_set window (Some n) setting done =
      put_at (index_of (record { window = window; control = n }) before.controls.controls) (record { window = window; control = n }) setting done.0 done.1 done.2.lists

  -- a scroll bar was made, if one is wanted
  bar_made : (wanted : Bool) (n : NewControl) (serial : Option ℕ) → IsBarMade wanted n serial before after
      → IsBesideLayers before after × IsNextAfter (if wanted then 1 else 0) before.controls.next after.controls.next × (after.lists.next ≡ before.lists.next)
  bar_made false n serial done = let its = still done.1 in (its.beside, its.control, its.list)
  bar_made true n serial ((c, is, step), lists) =
      let next = (control_facts (control_calls.New n) (Ok (control_reply.Made c)) (with_controls before) (with_controls after) step).1 in (
        by_control (control_calls.New n) (Ok (control_reply.Made c)) step step.1.2.activity lists.lists,
        (next.0, next.2, next.3),
        ap (λ (s : ListsState). s.next) lists.lists,
      )

  gone_if : (b : Bool) (c : ControlOf) → IsBarGoneIf b c before after → KeepsNext before after
  gone_if true c same = still same
  gone_if false c done = record {
    beside = by_control (control_calls.Dispose c) (Ok control_reply.Done) done.0 done.0.1.1.activity done.1.lists;
    control = (control_facts (control_calls.Dispose c) (Ok control_reply.Done) (with_controls before) (with_controls after) done.0).1;
    list = ap (λ (s : ListsState). s.next) done.1.lists;
  }

  bar_gone : (window : ℕ) (o : Option ℕ) → IsBarGone window o before after → KeepsNext before after
  bar_gone window None same = still same
  bar_gone window (Some n) done = gone_if (is_none (index_of (record { window = window; control = n }) before.controls.controls)) (record { window = window; control = n }) done

  -- windows got other layers
  laid : (window : ℕ) (relaid : List Layer → List Layer) (afresh : Option Part) → AreLaid window relaid afresh before after → SameActivity before.desk after.desk → after.controls ≡ before.controls → list_kinds_of after.lists ≡ list_kinds_of before.lists → IsBesideLayers before after
  laid window relaid afresh its activity controls kinds = record {
    windows = ap (λ (d : FullDesk). map bare d.windows) its.set.desk ∙ bare_laid window its.layers before.desk.windows.desk.windows;
    rest = λ i. record (its.set.desk i) { windows = after.desk.windows.desk.windows; shows = after.desk.windows.desk.shows };
    activity = activity;
    kinds = ap kinds_of controls;
    list_kinds = kinds;
  }

  list_put : (n : NewList) (serial : ℕ) (vertical horizontal : Option ℕ) → IsListPut n serial vertical horizontal before after → IsBesideLayers before after
  list_put n serial vertical horizontal put =
      laid n.window _ _ put.laid put.beside.activity put.beside.controls (taken_kinds (λ (d : ListDefinition). d.stage) n.kind put.loan before.lists.stock after.lists.stock put.taken)

  list_gone : (l : ListOf) (x : KeptList) → IsListGone l x before after → KeepsNext before after
  list_gone l x gone = record {
    beside = laid l.window _ _ gone.laid gone.beside.activity gone.beside.controls
        (back_kinds (record { definition = gone.shut.definition; slot = x.kept.definition.slot }) before.lists.stock after.lists.stock gone.shut.left gone.shut.back);
    control = ap (λ (s : ControlsState). s.next) gone.beside.controls;
    list = ap (λ (s : ListsState). s.next) gone.lists;
  }

-- ---- each call

bars_set : (l : ListOf) (before after : ListDesk) → AreBarsSet l before after → KeepsNext before after
bars_set l before after (x, named, (mid, down, across)) = and_next before mid after (bar_set before mid l.window x.kept.vertical _ down) (bar_set mid after l.window x.kept.horizontal _ across)

relined : (l : ListOf) (f : KeptList → KeptList) (before after : ListDesk) → IsRelined l f before after → KeepsNext before after
relined l f before after (mid, (x, named, done), bars) = and_next before mid after (seen before mid x.kept.drawing l f x done) (bars_set l mid after bars)

disposed : (l : ListOf) (before after : ListDesk) → IsListDisposed l before after → KeepsNext before after
disposed l before after (x, gone, mid, first, down, across) =
    and_next before gone after (list_gone before gone l x first) (and_next gone mid after (bar_gone gone mid l.window x.kept.vertical down) (bar_gone mid after l.window x.kept.horizontal across))

-- so many serials and then so many more
next_both : (j k : Bool) (a b c : Option ℕ) → IsNextAfter (if j then 1 else 0) a b → IsNextAfter (if k then 1 else 0) b c → IsNextAfter ((if j then 1 else 0) + (if k then 1 else 0)) a c
next_both false false a b c first second = second ∙ first
next_both false true a b c first second = subst (λ o. IsNextAfter 1 o c) first second
next_both true false a b c (n, is, next) second = (n, is, second ∙ next)
next_both true true a b c (n, is, next) second = (n, is, subst (λ o. IsNextAfter 1 o c) next second)

made : (n : NewList) (serial : ℕ) (before after : ListDesk) → IsListMade n serial before after
    → IsBesideLayers before after × ((before.lists.next ≡ Some serial) × (after.lists.next ≡ serial_after serial)) × IsNextAfter (bars_wanted n) before.controls.next after.controls.next
made n serial before after (a, b, vertical, horizontal, down, across, put) =
    let first = bar_made before a n.vertical_bar _ vertical down in
    let second = bar_made a b n.horizontal_bar _ horizontal across in (
      and_beside before a after first.0 (and_beside a b after second.0 (list_put b after n serial vertical horizontal put)),
      (sym first.2 ∙ sym second.2 ∙ put.serials, put.next),
      next_both n.vertical_bar n.horizontal_bar before.controls.next a.controls.next after.controls.next first.1
          (subst (λ (s : ControlsState). IsNextAfter (if n.horizontal_bar then 1 else 0) a.controls.next s.next) (sym put.beside.controls) second.1),
    )

module _ (before after : ListDesk) where
  -- a call that makes no list
  both : KeepsNext before after → IsBesideLayers before after × ((after.lists.next ≡ before.lists.next) × (after.controls.next ≡ before.controls.next))
  both its = (its.beside, (its.list, its.control))

  -- the window of a list that is not missing is there
  pub window_there : (l : ListOf) (rest : List (Bool × Refusal)) → first_refusal (missing_refusals l before.desk.windows.desk before.lists.lists ++ rest) ≡ None → is_missing l.window before.desk.windows.desk.windows ≡ false
  window_there l rest none = (none_hold (is_missing l.window before.desk.windows.desk.windows) NoSuchWindow ((is_none (lists.index_of l before.lists.lists), NoSuchList) ∷ []) (front_fails (missing_refusals l before.desk.windows.desk before.lists.lists) rest none)).0

  clicked : (k : ListClick) (o : Option Cell) (answer : ListReply) → is_missing k.list.window before.desk.windows.desk.windows ≡ false → IsClickOn k o answer before after → KeepsNext before after
  clicked k None answer there done = still before after done.1
  clicked k (Some c) answer there (is, (x, named, done)) = selected before after x.kept.drawing k.list _ x there done

  effect_facts : (call : ListCall) (answer : ListReply) → first_refusal (list_refusals call before.desk.windows.desk before.controls before.lists) ≡ None → IsListEffect call answer before after
      → IsBesideLayers before after × IsNextList call (Ok answer) before after
  effect_facts (New n) answer may (serial, is, done) = let its = made n serial before after done in (its.0, ((serial, is, its.1.0, its.1.1), its.2))
  effect_facts (Dispose l) answer may done = both (disposed l before after done.1)
  effect_facts (AddRows n) answer may done = both (relined n.list _ before after done.1)
  effect_facts (AddColumns n) answer may done = both (relined n.list _ before after done.1)
  effect_facts (DeleteRows n) answer may done = both (relined n.list _ before after done.1)
  effect_facts (DeleteColumns n) answer may done = both (relined n.list _ before after done.1)
  effect_facts (SetCell t) answer may (is, (x, named, done)) = both (seen before after x.kept.drawing t.cell.list _ x done)
  effect_facts (AddToCell t) answer may (is, (x, named, done)) = both (seen before after x.kept.drawing t.cell.list _ x done)
  effect_facts (ClearCell c) answer may (is, (x, named, done)) = both (seen before after x.kept.drawing c.list _ x done)
  effect_facts (GetCell c) answer may done = both (still before after done.1)
  effect_facts (Select k) answer may (is, (x, named, done)) = both (selected before after x.kept.drawing k.cell.list _ x (window_there k.cell.list (of_list (cell_refusals k.cell.cell) (list_of k.cell.list before.lists.lists)) may) done)
  effect_facts (IsSelected c) answer may done = both (still before after done.1)
  effect_facts (FirstSelected c) answer may done = both (still before after done.1)
  effect_facts (NextCell n) answer may done = both (still before after done.1)
  effect_facts (Search t) answer may done = both (still before after done.1)
  effect_facts (Click k) answer may (x, named, done) = both (clicked k (clicked_at k x) answer (window_there k.list ((not (in_plane k.point), OutOfRange) ∷ (not (is_word k.modifiers), OutOfRange) ∷ []) may) done)
  effect_facts (Scroll m) answer may done = both (relined m.list _ before after done.1)
  effect_facts (SetDrawing d) answer may (is, change, same) = both (record {
    beside = record {
      windows = ap (λ (s : FullDesk). map bare s.windows) same.windows.desk;
      rest = λ i. record (same.windows.desk i) { windows = after.desk.windows.desk.windows; shows = after.desk.windows.desk.shows };
      activity = change.beside.activity;
      kinds = ap kinds_of change.beside.controls;
      list_kinds = ap list_kinds_of change.lists;
    };
    control = ap (λ (s : ControlsState). s.next) change.beside.controls;
    list = ap (λ (s : ListsState). s.next) change.lists;
  })

refused_next : (call : ListCall) (e : Refusal) (before after : ListDesk) → after.lists.next ≡ before.lists.next → after.controls.next ≡ before.controls.next → IsNextList call (Err e) before after
refused_next (New n) e before after lists controls = (lists, controls)
refused_next call e before after lists controls = (lists, controls)

-- what a call about lists leaves of the rest of a desk
pub list_facts : (call : ListCall) (result : Result ListReply Refusal) (before after : ListDesk) → IsListStep call result before after → IsBesideLayers before after × IsNextList call result before after
list_facts call (Ok answer) before after step = effect_facts before after call answer step.0 step.1
list_facts call (Err e) before after step = let its = still before after step.1 in (its.beside, refused_next call e before after its.list its.control)
