-- The lists that a run makes have serials that follow each other.
use Rattle.std.proofs.Common.{◌≡◌, ℕ, List, [], ◌∷◌, ◌++◌, Option, None, Some, Result, Ok, Err, refl, sym, ap, ◌∙◌, subst}
use Rattle.std.specs.Option.{option_map_or}
use Rattle.tb_geom.specs.declared.refusal.Refusal.{Refusal}
use Rattle.desk_call.specs.declared.call.Call.{Call}
use Rattle.desk_call.specs.declared.call.Reply.{Reply}
use Rattle.desk_call.specs.declared.call.Reply.TheVariants as reply
use Rattle.desk_call.specs.declared.list.ListCall.{ListCall}
use Rattle.desk_call.specs.declared.list.ListCall.TheVariants.{New, Dispose, AddRows, AddColumns, DeleteRows, DeleteColumns, SetCell, AddToCell, ClearCell, GetCell, Select, IsSelected, FirstSelected, NextCell, Search, Click, Scroll, SetDrawing}
use Rattle.desk_call.specs.declared.list.ListClick.{ListClick}
use Rattle.desk_call.specs.declared.list.ListOf.{ListOf}
use Rattle.desk_call.specs.declared.list.ListReply.{ListReply}
use Rattle.desk_call.specs.declared.list.ListReply.TheVariants as told
use Rattle.desk_call.specs.declared.window.WindowCall.{WindowCall}
use Rattle.desk_call.specs.declared.window.WindowCall.TheVariants as windows
use Rattle.desk_call.specs.declared.window.WindowReply.{WindowReply}
use Rattle.list_cells.specs.declared.cell.Cell.{Cell}
use Rattle.list_mgr.specs.ListDesks.{KeptList, ListDesk, ListsState, list_of}
use Rattle.list_mgr.specs.ListSteps.{IsClickOn, IsDataOf, IsListEffect, IsListStep, clicked_at, told_of}
use Rattle.list_mgr.proofs.ListFacts.{IsNextList, list_facts}
use Rattle.desk_toolbox.specs.Run.{AreCounted, AreListsLeft, IsRunOfCalls, IsWindowMade, list_serial, lists_made, replied}
use Rattle.desk_toolbox.specs.ToolboxStates.{ToolboxState, with_lists}
use Rattle.desk_toolbox.proofs.EachManager.{HoldsOfEach, of_step}
use Rattle.desk_call.specs.declared.window.WindowReply.TheVariants as window_reply
use Rattle.desk_toolbox.specs.Run.{put_down}

-- the serials of the lists that a call made
abbrev made_by : Result Reply Refusal → List ℕ
made_by (Ok (reply.List answer)) = list_serial answer
made_by _ = []

next_counted : (before after : ListsState) (numbers : List ℕ) → after.next ≡ before.next → AreCounted after.next numbers → AreCounted before.next numbers
next_counted before after numbers same h = subst (λ n. AreCounted n numbers) same h

left_next : (call : WindowCall) (before after : ListsState) → AreListsLeft call before after → after.next ≡ before.next
left_next (windows.Dispose s) before after left = left.next
left_next call before after same = ap (λ (s : ListsState). s.next) same

window_next : (call : WindowCall) (answer : Result WindowReply Refusal) (before after : ToolboxState) → IsWindowMade call answer before after → after.lists.next ≡ before.lists.next
window_next call (Ok answer) before after step = left_next call before.lists after.lists step.lists
window_next call (Err e) before after step = ap (λ (s : ListsState). s.next) step.1.lists

-- what is told of a list is no serial of a new one, where no answer of this sort is
told_none : (l : ListOf) (f : KeptList → ListReply) → ((x : KeptList) → list_serial (f x) ≡ []) → (ls : List KeptList) → list_serial (told_of l f ls) ≡ []
told_none l f none ls = by_list (list_of l ls)
  where
    by_list : (o : Option KeptList) → list_serial (option_map_or f o told.Done) ≡ []
    by_list None = refl
    by_list (Some x) = none x

data_none : (bytes : List ℕ) (answer : ListReply) → IsDataOf bytes answer → list_serial answer ≡ []
data_none bytes (told.Data d) is = refl
data_none bytes (told.Made n) wrong = absurd wrong
data_none bytes answer wrong = refl

clicked_none : (k : ListClick) (o : Option Cell) (answer : ListReply) (before after : ListDesk) → IsClickOn k o answer before after → list_serial answer ≡ []
clicked_none k None answer before after done = ap list_serial done.0
clicked_none k (Some c) answer before after done = ap list_serial done.0

-- a call that makes no list answers no serial of one
module _ (before after : ListDesk) (numbers : List ℕ) where
  none_new : (answer : ListReply) → list_serial answer ≡ [] → after.lists.next ≡ before.lists.next → AreCounted after.lists.next numbers → AreCounted before.lists.next (list_serial answer ++ numbers)
  none_new answer none next h = subst (λ (ns : List ℕ). AreCounted before.lists.next (ns ++ numbers)) (sym none) (next_counted before.lists after.lists numbers next h)

  list_counted : (call : ListCall) (answer : ListReply) → IsListEffect call answer before after → IsNextList call (Ok answer) before after → AreCounted after.lists.next numbers → AreCounted before.lists.next (list_serial answer ++ numbers)
  list_counted (New n) answer effect ((serial, is, first, next), bars) h =
      subst (λ (a : ListReply). AreCounted before.lists.next (list_serial a ++ numbers)) (sym is) (first, subst (λ o. AreCounted o numbers) next h)
  list_counted (Dispose l) answer done next h = none_new answer (ap list_serial done.0) next.0 h
  list_counted (AddRows n) answer done next h = none_new answer (ap list_serial done.0 ∙ told_none n.list _ (λ x. refl) before.lists.lists) next.0 h
  list_counted (AddColumns n) answer done next h = none_new answer (ap list_serial done.0 ∙ told_none n.list _ (λ x. refl) before.lists.lists) next.0 h
  list_counted (DeleteRows n) answer done next h = none_new answer (ap list_serial done.0) next.0 h
  list_counted (DeleteColumns n) answer done next h = none_new answer (ap list_serial done.0) next.0 h
  list_counted (SetCell t) answer done next h = none_new answer (ap list_serial done.0) next.0 h
  list_counted (AddToCell t) answer done next h = none_new answer (ap list_serial done.0) next.0 h
  list_counted (ClearCell c) answer done next h = none_new answer (ap list_serial done.0) next.0 h
  list_counted (GetCell c) answer ((x, named, is), same) next h = none_new answer (data_none _ answer is) next.0 h
  list_counted (Select k) answer done next h = none_new answer (ap list_serial done.0) next.0 h
  list_counted (IsSelected c) answer done next h = none_new answer (ap list_serial done.0 ∙ told_none c.list _ (λ x. refl) before.lists.lists) next.0 h
  list_counted (FirstSelected c) answer done next h = none_new answer (ap list_serial done.0 ∙ told_none c.list _ (λ x. refl) before.lists.lists) next.0 h
  list_counted (NextCell n) answer done next h = none_new answer (ap list_serial done.0 ∙ told_none n.cell.list _ (λ x. refl) before.lists.lists) next.0 h
  list_counted (Search t) answer done next h = none_new answer (ap list_serial done.0 ∙ told_none t.cell.list _ (λ x. refl) before.lists.lists) next.0 h
  list_counted (Click k) answer (x, named, done) next h = none_new answer (clicked_none k (clicked_at k x) answer before after done) next.0 h
  list_counted (Scroll m) answer done next h = none_new answer (ap list_serial done.0) next.0 h
  list_counted (SetDrawing d) answer done next h = none_new answer (ap list_serial done.0) next.0 h

refused_next : (call : ListCall) (e : Refusal) (before after : ListDesk) → IsNextList call (Err e) before after → after.lists.next ≡ before.lists.next
refused_next (New n) e before after next = next.0
refused_next call e before after next = next.0

list_is_counted : (call : ListCall) (answer : Result ListReply Refusal) (before after : ToolboxState) (numbers : List ℕ) → IsListStep call answer (with_lists before) (with_lists after) → AreCounted after.lists.next numbers
    → AreCounted before.lists.next (made_by (replied reply.List answer) ++ numbers)
list_is_counted call (Ok answer) before after numbers step h = list_counted (with_lists before) (with_lists after) numbers call answer step.1 (list_facts call (Ok answer) (with_lists before) (with_lists after) step).1 h
list_is_counted call (Err e) before after numbers step h =
    next_counted before.lists after.lists numbers (refused_next call e (with_lists before) (with_lists after) (list_facts call (Err e) (with_lists before) (with_lists after) step).1) h

-- the calls of the other managers make no list
none_made : {R : Type 0} (reply_of : R → Reply) (answer : Result R Refusal) (before after : ListsState) (numbers : List ℕ) → ((a : R) → made_by (Ok (reply_of a)) ≡ []) → after.next ≡ before.next → AreCounted after.next numbers → AreCounted before.next (made_by (replied reply_of answer) ++ numbers)
none_made reply_of (Ok a) before after numbers none next h = subst (λ (ns : List ℕ). AreCounted before.next (ns ++ numbers)) (sym (none a)) (next_counted before after numbers next h)
none_made reply_of (Err e) before after numbers none next h = next_counted before after numbers next h

abbrev GoesOnCounting : Call → Result Reply Refusal → ToolboxState → ToolboxState → Type 0
GoesOnCounting call answer before after = (numbers : List ℕ) → AreCounted after.lists.next numbers → AreCounted before.lists.next (made_by answer ++ numbers)

next_of : (before after : ToolboxState) → after.lists ≡ before.lists → after.lists.next ≡ before.lists.next
next_of before after same = ap (λ (s : ListsState). s.next) same

each_is_counted : HoldsOfEach GoesOnCounting
each_is_counted = record {
  unchanged = λ call e before after same numbers h. next_counted before.lists after.lists numbers (next_of before after same.lists) h;
  covered = λ p before after same numbers h. next_counted before.lists after.lists numbers (next_of before after same.lists) h;
  hidden = λ p before after same numbers h. next_counted before.lists after.lists numbers (next_of before after same.lists) h;
  window = λ call answer before after may step numbers h. none_made reply.Window answer before.lists after.lists numbers (λ a. refl) (window_next call answer before after step) h;
  update = λ call answer before after may step rest numbers h. none_made reply.Window answer before.lists after.lists numbers (λ a. refl) (next_of before after rest.lists) h;
  frame = λ call answer before after may step rest numbers h. none_made reply.Frame answer before.lists after.lists numbers (λ a. refl) (next_of before after rest.lists) h;
  control = λ call answer before after may step events lists texts menus numbers h. none_made reply.Control answer before.lists after.lists numbers (λ a. refl) (next_of before after lists) h;
  list = λ call answer before after may step events texts menus numbers h. list_is_counted call answer before after numbers step h;
  text = λ call answer before after may step events controls lists menus numbers h. none_made reply.Text answer before.lists after.lists numbers (λ a. refl) (next_of before after lists) h;
  menu = λ call answer before after may step events controls lists texts numbers h. none_made reply.Menu answer before.lists after.lists numbers (λ a. refl) (next_of before after lists) h;
  outline = λ call answer before after may step rest numbers h. none_made reply.Outline answer before.lists after.lists numbers (λ a. refl) (next_of before after rest.lists) h;
  moved = λ call move before after may step numbers h. next_counted before.lists after.lists numbers (window_next (windows.Move move) (Ok window_reply.Done) (put_down before) after step) h;
  event = λ call answer before after step numbers h. none_made reply.Event answer before.lists after.lists numbers (λ a. refl) (next_of before after step.lists) h;
}

made_first : (answer : Result Reply Refusal) (answers : List (Result Reply Refusal)) → made_by answer ++ lists_made answers ≡ lists_made (answer ∷ answers)
made_first (Ok (reply.Window answer)) answers = refl
made_first (Ok (reply.Frame answer)) answers = refl
made_first (Ok (reply.Control answer)) answers = refl
made_first (Ok (reply.List answer)) answers = refl
made_first (Ok (reply.Text answer)) answers = refl
made_first (Ok (reply.Menu answer)) answers = refl
made_first (Ok (reply.Outline answer)) answers = refl
made_first (Ok (reply.Event answer)) answers = refl
made_first (Err e) answers = refl

pub lists_are_counted : (first last : ToolboxState) (calls : List Call) (answers : List (Result Reply Refusal)) → IsRunOfCalls first calls answers last → AreCounted first.lists.next (lists_made answers)
lists_are_counted first last [] [] run = tt
lists_are_counted first last [] (answer ∷ answers) run = absurd run
lists_are_counted first last (call ∷ calls) [] run = absurd run
lists_are_counted first last (call ∷ calls) (answer ∷ answers) run =
    subst (λ (ns : List ℕ). AreCounted first.lists.next ns) (made_first answer answers)
    (of_step GoesOnCounting each_is_counted call answer first run.0 run.1 (lists_made answers) (lists_are_counted run.0 last calls answers run.2))
