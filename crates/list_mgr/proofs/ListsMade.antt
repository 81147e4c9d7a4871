-- What holds of a desk with lists between calls holds where a list is made or disposed of with its scroll bars, and where its
-- drawing is turned on or off.
use Rattle.std.proofs.Common.{◌≡◌, ℕ, ◌<◌, zero, suc, Bool, true, false, ◌==◌, cond, List, [], ◌∷◌, Option, Some, refl, sym, ap, ◌∙◌, subst}
use Rattle.tb_geom.specs.declared.point.Point.{Point}
use Rattle.window_items.specs.Items.{count_of, edit_at, has_serial}
use Rattle.list_mgr.specs.Fields.{with_drawing}
use Rattle.desk_layers.specs.declared.part.Part.{Part}
use Rattle.desk_layers.specs.declared.part.Part.TheVariants as part
use Rattle.desk_call.specs.declared.list.ListOf.{ListOf}
use Rattle.desk_call.specs.declared.list.NewList.{NewList}
use Rattle.window_mgr.specs.DeskStates.{IsDeskUnchanged}
use Rattle.window_mgr.specs.FullDesk.{FullDesk}
use Rattle.window_mgr.specs.Refused.{is_missing}
use Rattle.window_mgr.proofs.Running.{unchanged_stays_right}
use Rattle.control_mgr.specs.ControlDesks.{ControlsState, controls_show}
use Rattle.list_mgr.specs.ListDesks.{KeptList, ListDesk, ListsState, list_bit, lists_show, with_serial}
use Rattle.list_mgr.specs.ListRefusals.{most_lists}
use Rattle.list_mgr.specs.ListSteps.{IsChangedTo, IsListDisposed, IsListMade, IsListPut, horizontal_bar_of, new_list, vertical_bar_of}
use Rattle.list_mgr.specs.WholeLists.{IsSettledList}
use Rattle.list_mgr.proofs.Edited.{Keeps}
use Rattle.list_mgr.proofs.ListsBars.{bar_gone_keeps, bar_made_keeps, bar_made_lists, bar_made_missing}
use Rattle.window_items.proofs.SerialLemmas.{with_first}
use Rattle.list_mgr.proofs.ListsKept.{IsRightLists, controls_same}
use Rattle.list_mgr.proofs.ListsLaid.{gone_keeps, put_keeps}
use Rattle.list_mgr.proofs.ListsWhole.{edited_whole}
use Rattle.tb_geom.specs.Points.{PixelSet}

-- ---- a list that shows what it showed

module _ (f : KeptList → KeptList) (same : (x : KeptList) → (f x).serial ≡ x.serial) (shows : (font : List ℕ) (x : KeptList) (p : Point) → list_bit font (Some (f x)) p ≡ list_bit font (Some x) p) where
  bit_edit : (font : List ℕ) (n : ℕ) (p : Point) (at : ℕ) (ls : List KeptList) → list_bit font (with_serial n (edit_at f at ls)) p ≡ list_bit font (with_serial n ls) p
  bit_edit font n p at [] = refl
  bit_edit font n p zero (x ∷ xs) =
      ap (λ o. list_bit font o p) (with_first n (f x) xs ∙ ap (λ s. cond (s == n) (Some (f x)) (with_serial n xs)) (same x))
      ∙ by_test (has_serial n x)
      ∙ sym (ap (λ o. list_bit font o p) (with_first n x xs))
    where
      by_test : (b : Bool) → list_bit font (cond b (Some (f x)) (with_serial n xs)) p ≡ list_bit font (cond b (Some x) (with_serial n xs)) p
      by_test true = shows font x p
      by_test false = refl
  bit_edit font n p (suc i) (x ∷ xs) =
      ap (λ o. list_bit font o p) (with_first n x (edit_at f i xs))
      ∙ by_test (has_serial n x) (bit_edit font n p i xs)
      ∙ sym (ap (λ o. list_bit font o p) (with_first n x xs))
    where
      by_test : (b : Bool) → list_bit font (with_serial n (edit_at f i xs)) p ≡ list_bit font (with_serial n xs) p
          → list_bit font (cond b (Some x) (with_serial n (edit_at f i xs))) p ≡ list_bit font (cond b (Some x) (with_serial n xs)) p
      by_test true rest = refl
      by_test false rest = rest

  part_edit : (others : List ℕ → Part → PixelSet) (at : ℕ) (ls : List KeptList) (font : List ℕ) (q : Part) (p : Point) → lists_show others (edit_at f at ls) font q p ≡ lists_show others ls font q p
  part_edit others at ls font part.Picture p = refl
  part_edit others at ls font (part.Control n) p = refl
  part_edit others at ls font (part.Text n) p = refl
  part_edit others at ls font (part.List n) p = bit_edit font n p at ls

  -- all lists show what they showed
  pub shows_edit : (others : List ℕ → Part → PixelSet) (at : ℕ) (ls : List KeptList) → lists_show others (edit_at f at ls) ≡ lists_show others ls
  shows_edit others at ls = λ i font q p. part_edit others at ls font q p i

-- ---- drawing

drawing_keeps_place : (on : Bool) → Keeps (with_drawing on)
drawing_keeps_place on = record {
  serial = λ x. refl;
  window = λ x. refl;
  definition = λ x. refl;
  layer = λ x k its. record { part = its.part; shown = its.shown; region = its.region; bounds = its.bounds };
}

drawing_stays : (on : Bool) (x : KeptList) → IsSettledList x → IsSettledList (with_drawing on x)
drawing_stays on x its = record { live = its.live; told = its.told; goes_by = its.goes_by; view = its.view; grid = its.grid; short = its.short; scrolled = its.scrolled; single = its.single }

-- the drawing of a list was turned on or off
pub drawing_keeps : (l : ListOf) (on : Bool) (before after : ListDesk) → IsRightLists before → IsChangedTo l (with_drawing on) before after → IsDeskUnchanged before.desk after.desk → IsRightLists after
drawing_keeps l on before after was changed same = record {
  desk = record {
    right = unchanged_stays_right before.desk.windows after.desk.windows was.desk.right same.windows;
    shows = subst (λ (x : FullDesk × ControlsState). x.0.shows ≡ controls_show (lists_show after.others after.lists.lists) x.1.controls x.0.font) (λ i. (sym same.windows.desk i, sym changed.beside.controls i))
        (was.desk.shows ∙ ap (λ others. controls_show others before.controls.controls before.desk.windows.desk.font) (sym lists_are));
    whole = controls_same before after was windows changed.beside.controls;
  };
  lists = edited_whole before after was.lists l (with_drawing on) (drawing_keeps_place on) (λ x named its. drawing_stays on x its) changed windows;
}
  where
    windows : after.desk.windows.desk.windows ≡ before.desk.windows.desk.windows
    windows = ap (λ (x : FullDesk). x.windows) same.windows.desk

    lists_are : lists_show after.others after.lists.lists ≡ lists_show before.others before.lists.lists
    lists_are =
        ap (λ f. lists_show f after.lists.lists) changed.beside.others
        ∙ ap (λ (s : ListsState). lists_show before.others s.lists) changed.lists
        ∙ shows_edit (with_drawing on) (λ x. refl) (λ font x p. refl) before.others changed.at before.lists.lists

-- ---- lists that are made and ended

-- a list was made, where the one that is put is settled
pub made_keeps : (n : NewList) (serial : ℕ) (before after : ListDesk) → IsRightLists before → is_missing n.window before.desk.windows.desk.windows ≡ false
    → count_of n.window before.lists.lists < most_lists
    → ((vertical horizontal : Option ℕ) (mid : ListDesk) (put : IsListPut n serial vertical horizontal mid after)
    → IsSettledList (new_list n serial put.flags vertical horizontal (record { definition = put.begun; slot = put.loan.slot })))
    → IsListMade n serial before after → IsRightLists after
made_keeps n serial before after was there room settled (first, mid, vertical, horizontal, bar, other, put) =
    let with_one = bar_made_keeps before first was n.vertical_bar (vertical_bar_of n) vertical bar in
    let with_both = bar_made_keeps first mid with_one n.horizontal_bar (horizontal_bar_of n) horizontal other in
    put_keeps mid after with_both n serial vertical horizontal put (settled vertical horizontal mid put)
    (bar_made_missing first mid with_one n.horizontal_bar (horizontal_bar_of n) horizontal other n.window ∙ bar_made_missing before first was n.vertical_bar (vertical_bar_of n) vertical bar n.window ∙ there)
    (subst (λ (s : ListsState). count_of n.window s.lists < most_lists)
    (sym (bar_made_lists first mid with_one n.horizontal_bar (horizontal_bar_of n) horizontal other ∙ bar_made_lists before first was n.vertical_bar (vertical_bar_of n) vertical bar)) room)

-- a list was disposed of
pub disposed_keeps : (l : ListOf) (before after : ListDesk) → IsRightLists before → IsListDisposed l before after → IsRightLists after
disposed_keeps l before after was (x, without_list, without_vertical, gone, vertical, horizontal) =
    bar_gone_keeps without_vertical after
    (bar_gone_keeps without_list without_vertical (gone_keeps before without_list was l x gone) l.window x.kept.vertical vertical) l.window x.kept.horizontal horizontal
