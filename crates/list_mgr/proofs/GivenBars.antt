-- Each call about lists leaves the scroll bars of each list with serials that controls were given.
use Rattle.std.proofs.Common.{◌≡◌, ◌<◌, ◌≤◌, inl, inr, ℕ, ◌+◌, ◌^◌, Bool, true, false, cond, List, Option, None, Some, Result, Ok, Err, refl, sym, ap, ◌∙◌, subst, arith}
use Rattle.std.specs.Prelude.{All, IfSome, is_none, nat_lt}
use Rattle.std.proofs.lemmas.Bool.{lt-ltb, ltb-true}
use Rattle.std.proofs.lemmas.List.Elements.{All-weaker}
use Rattle.tb_geom.specs.declared.refusal.Refusal.{Refusal}
use Rattle.control_values.specs.Settings.{Setting}
use Rattle.window_items.specs.Items.{is_before, serial_after}
use Rattle.desk_call.specs.declared.control.ControlCall.{ControlCall}
use Rattle.desk_call.specs.declared.control.ControlCall.TheVariants as control_calls
use Rattle.desk_call.specs.declared.control.ControlOf.{ControlOf}
use Rattle.desk_call.specs.declared.control.ControlReply.{ControlReply}
use Rattle.desk_call.specs.declared.control.ControlReply.TheVariants as control_reply
use Rattle.desk_call.specs.declared.control.NewControl.{NewControl}
use Rattle.desk_call.specs.declared.list.ListCall.{ListCall}
use Rattle.desk_call.specs.declared.list.ListCall.TheVariants.{New, Dispose, AddRows, AddColumns, DeleteRows, DeleteColumns, SetCell, AddToCell, ClearCell, GetCell, Select, IsSelected, FirstSelected, NextCell, Search, Click, Scroll, SetDrawing}
use Rattle.desk_call.specs.declared.list.ListClick.{ListClick}
use Rattle.desk_call.specs.declared.list.ListOf.{ListOf}
use Rattle.desk_call.specs.declared.list.ListReply.{ListReply}
use Rattle.desk_call.specs.declared.list.NewList.{NewList}
use Rattle.list_cells.specs.declared.cell.Cell.{Cell}
use Rattle.list_cells.specs.Grids.{Grid}
use Rattle.control_mgr.specs.ControlDesks.{ControlsState, index_of}
use Rattle.control_mgr.proofs.ControlFacts.{IsNextControl, control_facts}
use Rattle.list_mgr.specs.GivenBars.{AreBarsApart, AreBarsGiven, HasGivenBars, IsBarGiven, IsFromOne}
use Rattle.list_mgr.specs.ListDesks.{KeptList, ListDesk, ListsState, with_controls}
use Rattle.list_mgr.specs.ListSteps.{IsBarGone, IsBarGoneIf, IsBarMade, IsBarSet, IsChangedTo, IsClickOn, IsListDisposed, IsListEffect, IsListMade, IsListStep, IsRelined, IsSeenOrNot, IsToggledOrNot, IsUnseen, clicked_at, new_list}
use Rattle.list_mgr.proofs.ListFacts.{IsNextList, list_facts}
use Rattle.list_mgr.proofs.ListsWhole.{All-more}
use Rattle.window_items.proofs.EditLemmas.{All-there, All-edit, All-remove}

-- ---- the next serial

-- what came before the next serial comes before it later
abbrev pub SerialsGoOn : Option ℕ → Option ℕ → Type 0
SerialsGoOn first next = (n : ℕ) → is_before first n ≡ true → is_before next n ≡ true

same_goes_on : (first next : Option ℕ) → next ≡ first → SerialsGoOn first next
same_goes_on first next same n before = subst (λ o. is_before o n ≡ true) (sym same) before

-- a serial up to this one comes before the one after it
up_to : (s n : ℕ) → n < s + 1 → is_before (serial_after s) n ≡ true
up_to s n less = by_test (nat_lt (s + 1) (2 ^ 64))
  where
    by_test : (b : Bool) → is_before (cond b (Some (s + 1)) None) n ≡ true
    by_test true = lt-ltb n (s + 1) less
    by_test false = refl

-- the next serial was taken, if one was
abbrev IsSerialTaken : Option ℕ → Option ℕ → Option ℕ → Type 0
IsSerialTaken None first next = next ≡ first
IsSerialTaken (Some s) first next = (first ≡ Some s) × (next ≡ serial_after s)

taken_goes_on : (bar first next : Option ℕ) → IsSerialTaken bar first next → SerialsGoOn first next
taken_goes_on None first next same n before = same_goes_on first next same n before
taken_goes_on (Some s) first next (is, after) n before =
    let less = ltb-true n s (subst (λ o. is_before o n ≡ true) is before) in
    subst (λ o. is_before o n ≡ true) (sym after) (up_to s n (omega (arith, less)))

-- the one after a serial is 1 at least
from_one : (s : ℕ) → IsFromOne (serial_after s)
from_one s = by_test (nat_lt (s + 1) (2 ^ 64))
  where
    by_test : (b : Bool) → IsFromOne (cond b (Some (s + 1)) None)
    by_test true = omega arith
    by_test false = tt

taken_from_one : (bar first next : Option ℕ) → IsSerialTaken bar first next → IsFromOne first → IsFromOne next
taken_from_one None first next same low = subst IsFromOne (sym same) low
taken_from_one (Some s) first next (is, after) low = subst IsFromOne (sym after) (from_one s)

-- then it was given
taken_is_given : (bar first next : Option ℕ) → IsSerialTaken bar first next → IsFromOne first → IsBarGiven next bar
taken_is_given None first next same low = tt
taken_is_given (Some s) first next (is, after) low =
    (subst (λ o. IfSome o (λ n. 1 ≤ n)) is low, subst (λ o. is_before o s ≡ true) (sym after) (up_to s s (omega arith)))

-- and is another than one that was given before
taken_apart : (vertical horizontal first next : Option ℕ) → IsBarGiven first vertical → IsSerialTaken horizontal first next → AreBarsApart vertical horizontal
taken_apart None horizontal first next given taken = tt
taken_apart (Some v) None first next given taken = tt
taken_apart (Some v) (Some h) first next given (is, after) =
    let less = ltb-true v h (subst (λ o. is_before o v ≡ true) is given.1) in λ same. absurd (omega (arith, less, same))

still_given : (bar first next : Option ℕ) → SerialsGoOn first next → IsBarGiven first bar → IsBarGiven next bar
still_given None first next on given = tt
still_given (Some n) first next on given = (given.0, on n given.1)

-- scroll bars whose serials were given have them later
pub bars_go_on : (first next : Option ℕ) (ls : List KeptList) → SerialsGoOn first next → All (HasGivenBars first) ls → All (HasGivenBars next) ls
bars_go_on first next ls on h =
    All-weaker (HasGivenBars first) (HasGivenBars next)
    (λ l its. record { vertical = still_given l.kept.vertical first next on its.vertical; horizontal = still_given l.kept.horizontal first next on its.horizontal; apart = its.apart })
    ls h

-- each call about controls leaves the next serial, or it is taken
pub control_goes_on : (call : ControlCall) (result : Result ControlReply Refusal) (before after : ControlsState) → IsNextControl call result before after → SerialsGoOn before.next after.next
control_goes_on (control_calls.New n) (Ok answer) before after (serial, is, first, next) = taken_goes_on (Some serial) before.next after.next (first, next)
control_goes_on (control_calls.New n) (Err e) before after same = same_goes_on before.next after.next same
control_goes_on call result before after same = same_goes_on before.next after.next same

-- each leaves a next serial that is 1 at least
pub control_from_one : (call : ControlCall) (result : Result ControlReply Refusal) (before after : ControlsState) → IsNextControl call result before after → IsFromOne before.next → IsFromOne after.next
control_from_one (control_calls.New n) (Ok answer) before after (serial, is, first, next) low = taken_from_one (Some serial) before.next after.next (first, next) low
control_from_one (control_calls.New n) (Err e) before after same low = subst IsFromOne (sym same) low
control_from_one call result before after same low = subst IsFromOne (sym same) low

-- ---- calls that make no list

-- the change leaves a list its scroll bars
abbrev KeepsBars : (KeptList → KeptList) → Type 0
KeepsBars f = (x : KeptList) → ((f x).kept.vertical ≡ x.kept.vertical) × ((f x).kept.horizontal ≡ x.kept.horizontal)

bar_set : (window : ℕ) (bar : Option ℕ) (setting : Setting) (before after : ListDesk) → IsBarSet window bar setting before after → after.lists ≡ before.lists
bar_set window None setting before after same = same.lists
bar_set window (Some n) setting before after done = done.2.lists

gone_if : (b : Bool) (c : ControlOf) (before after : ListDesk) → IsBarGoneIf b c before after → after.lists ≡ before.lists
gone_if true c before after same = same.lists
gone_if false c before after done = done.1.lists

bar_gone : (window : ℕ) (bar : Option ℕ) (before after : ListDesk) → IsBarGone window bar before after → after.lists ≡ before.lists
bar_gone window None before after same = same.lists
bar_gone window (Some n) before after done =
    let c : ControlOf = record { window = window; control = n } in gone_if (is_none (index_of c before.controls.controls)) c before after done

module _ (next : Option ℕ) where
  abbrev HaveGiven : ListDesk → Type 0
  HaveGiven d = All (HasGivenBars next) d.lists.lists

  same_lists : (before after : ListDesk) → after.lists ≡ before.lists → HaveGiven before → HaveGiven after
  same_lists before after same h = subst (λ (s : ListsState). All (HasGivenBars next) s.lists) (sym same) h

  kept_bars : (f : KeptList → KeptList) → KeepsBars f → (x : KeptList) → HasGivenBars next x → HasGivenBars next (f x)
  kept_bars f keeps x its = record {
    vertical = subst (IsBarGiven next) (sym (keeps x).0) its.vertical;
    horizontal = subst (IsBarGiven next) (sym (keeps x).1) its.horizontal;
    apart = subst (λ (bars : Option ℕ × Option ℕ). AreBarsApart bars.0 bars.1) (λ i. (sym (keeps x).0 i, sym (keeps x).1 i)) its.apart;
  }

  module _ (before after : ListDesk) (was : HaveGiven before) where
    -- a list was changed
    changed : (l : ListOf) (f : KeptList → KeptList) → IsChangedTo l f before after → KeepsBars f → HaveGiven after
    changed l f done keeps =
        subst (λ (s : ListsState). All (HasGivenBars next) s.lists) (sym done.lists)
        (All-edit (HasGivenBars next) f done.at before.lists.lists was (λ x there. kept_bars f keeps x (All-there (HasGivenBars next) done.at before.lists.lists x there was)))

    unseen : (l : ListOf) (f : KeptList → KeptList) (x : KeptList) → IsUnseen l f x before after → KeepsBars f → HaveGiven after
    unseen l f x (inl same) keeps = same_lists before after same.1.lists was
    unseen l f x (inr its) keeps = changed l f its.1.changed keeps

    seen : (b : Bool) (l : ListOf) (f : KeptList → KeptList) (x : KeptList) → IsSeenOrNot b l f x before after → KeepsBars f → HaveGiven after
    seen true l f x its keeps = changed l f its.changed keeps
    seen false l f x done keeps = unseen l f x done keeps

    toggled : (b : Bool) (l : ListOf) (g : Grid → Grid) (x : KeptList) → IsToggledOrNot b l g x before after → HaveGiven after
    toggled true l g x its = changed l _ its.changed (λ y. (refl, refl))
    toggled false l g x done = unseen l _ x done (λ y. (refl, refl))

    clicked : (k : ListClick) (o : Option Cell) (answer : ListReply) → IsClickOn k o answer before after → HaveGiven after
    clicked k None answer done = same_lists before after done.1.lists was
    clicked k (Some c) answer (is, (x, named, done)) = toggled x.kept.drawing k.list _ x done

  relined : (l : ListOf) (f : KeptList → KeptList) (before after : ListDesk) → HaveGiven before → IsRelined l f before after → KeepsBars f → HaveGiven after
  relined l f before after was (mid, (x, named, done), (y, there, (both, down, across))) keeps =
      same_lists both after (bar_set l.window y.kept.horizontal _ both after across)
      (same_lists mid both (bar_set l.window y.kept.vertical _ mid both down) (seen before mid was x.kept.drawing l f x done keeps))

  -- a list was taken out
  disposed : (l : ListOf) (before after : ListDesk) → HaveGiven before → IsListDisposed l before after → HaveGiven after
  disposed l before after was (x, gone, mid, first, down, across) =
      same_lists mid after (bar_gone l.window x.kept.horizontal mid after across)
      (same_lists gone mid (bar_gone l.window x.kept.vertical gone mid down)
      (subst (λ (s : ListsState). All (HasGivenBars next) s.lists) (sym first.lists) (All-remove (HasGivenBars next) first.at before.lists.lists was)))

-- ---- a list that is made

made_serial : (c s : ℕ) → control_reply.Made c ≡ control_reply.Made s → s ≡ c
made_serial c s e = cc

bar_made : (wanted : Bool) (n : NewControl) (bar : Option ℕ) (before after : ListDesk) → IsBarMade wanted n bar before after → IsSerialTaken bar before.controls.next after.controls.next × (after.lists ≡ before.lists)
bar_made false n bar before after (none, same) = (
  subst (λ o. IsSerialTaken o before.controls.next after.controls.next) (sym none) (ap (λ (s : ControlsState). s.next) same.controls),
  same.lists,
)
bar_made true n bar before after ((c, is, step), lists) =
    let its = (control_facts (control_calls.New n) (Ok (control_reply.Made c)) (with_controls before) (with_controls after) step).1 in
    let same = made_serial c its.0 its.1 in
    (subst (λ o. IsSerialTaken o before.controls.next after.controls.next) (sym is) (its.2 ∙ ap Some same, its.3 ∙ ap serial_after same), lists.lists)

made : (n : NewList) (serial : ℕ) (before after : ListDesk) → IsFromOne before.controls.next → All (HasGivenBars before.controls.next) before.lists.lists → IsListMade n serial before after
    → AreBarsGiven after.controls.next after.lists.lists
made n serial before after low was (a, b, vertical, horizontal, down, across, put) =
    let first = bar_made n.vertical_bar _ vertical before a down in
    let second = bar_made n.horizontal_bar _ horizontal a b across in
    let low_a = taken_from_one vertical before.controls.next a.controls.next first.0 low in
    let given = taken_is_given vertical before.controls.next a.controls.next first.0 low in
    let on = taken_goes_on horizontal a.controls.next b.controls.next second.0 in
    subst (λ (s : ControlsState × List KeptList). AreBarsGiven s.0.next s.1) (λ i. (sym put.beside.controls i, sym put.lists i)) (
      taken_from_one horizontal a.controls.next b.controls.next second.0 low_a,
      All-more (HasGivenBars b.controls.next) b.lists.lists (new_list n serial put.flags vertical horizontal (record { definition = put.begun; slot = put.loan.slot }))
          (same_lists b.controls.next before b (second.1 ∙ first.1)
          (bars_go_on before.controls.next b.controls.next before.lists.lists (λ k its. on k (taken_goes_on vertical before.controls.next a.controls.next first.0 k its)) was))
          (record {
            vertical = still_given vertical a.controls.next b.controls.next on given;
            horizontal = taken_is_given horizontal a.controls.next b.controls.next second.0 low_a;
            apart = taken_apart vertical horizontal a.controls.next b.controls.next given second.0;
          }),
    )

-- ---- each call

module _ (before after : ListDesk) (low : IsFromOne before.controls.next) (was : All (HasGivenBars before.controls.next) before.lists.lists) where
  abbrev next : Option ℕ
  next = before.controls.next

  abbrev Goal : Type 0
  Goal = AreBarsGiven after.controls.next after.lists.lists

  -- the next control is the same
  with_next : after.controls.next ≡ next → All (HasGivenBars next) after.lists.lists → Goal
  with_next same h = subst (λ o. AreBarsGiven o after.lists.lists) (sym same) (low, h)

  effect_keeps : (call : ListCall) (answer : ListReply) → IsListEffect call answer before after → IsNextList call (Ok answer) before after → Goal
  effect_keeps (New n) answer (serial, is, done) facts = made n serial before after low was done
  effect_keeps (Dispose l) answer done facts = with_next facts.1 (disposed next l before after was done.1)
  effect_keeps (AddRows n) answer done facts = with_next facts.1 (relined next n.list _ before after was done.1 (λ x. (refl, refl)))
  effect_keeps (AddColumns n) answer done facts = with_next facts.1 (relined next n.list _ before after was done.1 (λ x. (refl, refl)))
  effect_keeps (DeleteRows n) answer done facts = with_next facts.1 (relined next n.list _ before after was done.1 (λ x. (refl, refl)))
  effect_keeps (DeleteColumns n) answer done facts = with_next facts.1 (relined next n.list _ before after was done.1 (λ x. (refl, refl)))
  effect_keeps (SetCell t) answer (is, (x, named, done)) facts = with_next facts.1 (seen next before after was x.kept.drawing t.cell.list _ x done (λ y. (refl, refl)))
  effect_keeps (AddToCell t) answer (is, (x, named, done)) facts = with_next facts.1 (seen next before after was x.kept.drawing t.cell.list _ x done (λ y. (refl, refl)))
  effect_keeps (ClearCell c) answer (is, (x, named, done)) facts = with_next facts.1 (seen next before after was x.kept.drawing c.list _ x done (λ y. (refl, refl)))
  effect_keeps (GetCell c) answer done facts = with_next facts.1 (same_lists next before after done.1.lists was)
  effect_keeps (Select k) answer (is, (x, named, done)) facts = with_next facts.1 (toggled next before after was x.kept.drawing k.cell.list _ x done)
  effect_keeps (IsSelected c) answer done facts = with_next facts.1 (same_lists next before after done.1.lists was)
  effect_keeps (FirstSelected c) answer done facts = with_next facts.1 (same_lists next before after done.1.lists was)
  effect_keeps (NextCell n) answer done facts = with_next facts.1 (same_lists next before after done.1.lists was)
  effect_keeps (Search t) answer done facts = with_next facts.1 (same_lists next before after done.1.lists was)
  effect_keeps (Click k) answer (x, named, done) facts = with_next facts.1 (clicked next before after was k (clicked_at k x) answer done)
  effect_keeps (Scroll m) answer done facts = with_next facts.1 (relined next m.list _ before after was done.1 (λ x. (refl, refl)))
  effect_keeps (SetDrawing d) answer (is, change, same) facts = with_next facts.1 (changed next before after was d.list _ change (λ x. (refl, refl)))

-- a call about lists leaves the scroll bars of each list with serials that controls were given
pub list_keeps_bars : (call : ListCall) (result : Result ListReply Refusal) (before after : ListDesk) → IsListStep call result before after
    → AreBarsGiven before.controls.next before.lists.lists → AreBarsGiven after.controls.next after.lists.lists
list_keeps_bars call (Ok answer) before after step (low, was) = effect_keeps before after low was call answer step.1 (list_facts call (Ok answer) before after step).1
list_keeps_bars call (Err e) before after step (low, was) =
    with_next before after low was (ap (λ (s : ControlsState). s.next) step.1.controls) (same_lists before.controls.next before after step.1.lists was)
