-- What holds of a desk with lists between calls holds where one of its lists is changed.
use Rattle.std.proofs.Common.{◌≡◌, ⊎_elim, ℕ, Bool, true, false, ◌==◌, List, Option, None, Some, refl, sym, ap, ◌∙◌, subst, arith}
use Rattle.std.specs.Prelude.{is_none, slice_get}
use Rattle.std.specs.Option.{option_and_then}
use Rattle.std.proofs.lemmas.Bool.{false≢true}
use Rattle.std.proofs.lemmas.Bool.Decides.{nat_tests}
use Rattle.tb_geom.specs.Points.{PixelSet}
use Rattle.desk_layers.specs.declared.part.Part.{Part}
use Rattle.list_cells.specs.declared.selecting.Selecting.{Selecting}
use Rattle.list_cells.specs.Grids.{Grid}
use Rattle.list_cells.specs.Selections.{IsSelecting}
use Rattle.list_mgr.specs.Fields.{with_cells}
use Rattle.desk_call.specs.declared.list.ListOf.{ListOf}
use Rattle.vis_update.specs.Records.{WindowRecord}
use Rattle.window_mgr.specs.Finding.{record_with}
use Rattle.window_mgr.specs.FullDesk.{FullDesk}
use Rattle.window_mgr.specs.Refused.{is_missing}
use Rattle.control_mgr.specs.ControlDesks.{ControlsState, controls_show}
use Rattle.control_mgr.specs.WholeControls.{AreWholeControls}
use Rattle.control_mgr.proofs.ControlsKept.{IsRightDesk}
use Rattle.list_mgr.specs.ListDesks.{IsListDeskUnchanged, KeptList, ListDesk, ListsState, list_of, lists_show, with_controls}
use Rattle.list_mgr.specs.ListSteps.{IsChangedTo, IsListChanged, IsListMarked, IsSeenOrNot, IsShown, IsToggled, IsToggledOrNot, IsUnseen}
use Rattle.list_mgr.specs.WholeLists.{AreWholeLists, IsSettledList}
use Rattle.list_mgr.proofs.Edited.{Keeps}
use Rattle.window_items.proofs.SerialLemmas.{with_there}
use Rattle.list_mgr.proofs.ListsRight.{marked_right, redrawn_right, toggled_right, unchanged_right}
use Rattle.list_mgr.proofs.ListsStay.{lists_edited}
use Rattle.list_mgr.proofs.ListsWhole.{edited_whole, same_whole}
use Rattle.list_mgr.proofs.Places.{found_names}
use Rattle.window_items.proofs.EditLemmas.{All-there, there_edited}

-- what holds between calls: the desk with its controls is right, and the lists are whole
pub record IsRightLists (d : ListDesk) : Type 0 where
  pub desk : IsRightDesk (with_controls d)
  pub lists : AreWholeLists d.desk.windows.desk.windows d.lists

same_number : (a b : ℕ) → a ≡ b → (a == b) ≡ true
same_number a b e = grind (arith, nat_tests)

there_window : (o : Option WindowRecord) → is_none o ≡ false → (w : WindowRecord) × (o ≡ Some w)
there_window None e = absurd (false≢true (sym e))
there_window (Some w) e = (w, refl)

module _ (before after : ListDesk) (was : IsRightLists before) where
  -- the controls are as they were, and so are the windows
  pub controls_same : after.desk.windows.desk.windows ≡ before.desk.windows.desk.windows → after.controls ≡ before.controls → AreWholeControls after.desk.windows.desk.windows after.controls
  controls_same windows same = subst (λ (x : List WindowRecord × ControlsState). AreWholeControls x.0 x.1) (λ i. (sym windows i, sym same i)) was.desk.whole

  -- nothing changed
  pub unchanged_keeps : IsListDeskUnchanged before after → IsRightLists after
  unchanged_keeps same =
      let windows : after.desk.windows.desk.windows ≡ before.desk.windows.desk.windows = ap (λ (x : FullDesk). x.windows) same.desk.windows.desk in
      record {
        desk = record {
          right = unchanged_right before after was.desk.right same;
          shows = subst (λ (x : FullDesk × ControlsState × ListsState × (List ℕ → Part → PixelSet)). x.0.shows ≡ controls_show (lists_show x.3 x.2.lists) x.1.controls x.0.font)
              (λ i. (sym same.desk.windows.desk i, sym same.controls i, sym same.lists i, sym same.others i)) was.desk.shows;
          whole = controls_same windows same.controls;
        };
        lists = same_whole before after was.lists windows same.lists;
      }

  module _ (l : ListOf) (f : KeptList → KeptList) (keeps : Keeps f) (stays : (x : KeptList) → list_of l before.lists.lists ≡ Some x → IsSettledList x → IsSettledList (f x)) where
    module _ (changed : IsChangedTo l f before after) (windows : after.desk.windows.desk.windows ≡ before.desk.windows.desk.windows) where
      lists_after : AreWholeLists after.desk.windows.desk.windows after.lists
      lists_after = edited_whole before after was.lists l f keeps stays changed windows

      controls_after : AreWholeControls after.desk.windows.desk.windows after.controls
      controls_after = controls_same windows changed.beside.controls

    -- it was shown anew
    pub shown_keeps : IsShown l f before after → IsRightLists after
    shown_keeps its =
        let windows : after.desk.windows.desk.windows ≡ before.desk.windows.desk.windows = ap (λ (x : FullDesk). x.windows) its.redrawn.desk in
        let lists = lists_after its.changed windows in
        let controls = controls_after its.changed windows in
        record {
          desk = record {
            right = redrawn_right before after was.desk.right was.desk.shows its.shows its.changed.beside was.desk.whole.joined controls.joined l
                (lists_edited before.desk.windows.desk after.desk.windows.desk l f keeps.serial before after was.lists.apart its.changed was.lists.joined lists.joined) its.redrawn;
            shows = its.shows;
            whole = controls;
          };
          lists = lists;
        }

    -- all that it owns is to be redrawn
    pub marked_keeps : IsListMarked l f before after → IsRightLists after
    marked_keeps its =
        let windows : after.desk.windows.desk.windows ≡ before.desk.windows.desk.windows = ap (λ (x : FullDesk). x.windows) its.marked.desk in
        let lists = lists_after its.changed windows in
        let controls = controls_after its.changed windows in
        record {
          desk = record {
            right = marked_right before after was.desk.right was.desk.shows its.shows its.changed.beside was.desk.whole.joined controls.joined l
                (lists_edited before.desk.windows.desk after.desk.windows.desk l f keeps.serial before after was.lists.apart its.changed was.lists.joined lists.joined) its.marked;
            shows = its.shows;
            whole = controls;
          };
          lists = lists;
        }

    pub unseen_keeps : (x : KeptList) → IsUnseen l f x before after → IsRightLists after
    unseen_keeps x done = ⊎_elim (λ same. unchanged_keeps same.1) (λ its. marked_keeps its.1) done

    seen_keeps : (b : Bool) (x : KeptList) → IsSeenOrNot b l f x before after → IsRightLists after
    seen_keeps true x done = shown_keeps done
    seen_keeps false x done = unseen_keeps x done

    -- as its drawing is on or off
    pub changed_keeps : IsListChanged l f before after → IsRightLists after
    changed_keeps done = seen_keeps done.0.kept.drawing done.0 done.2

  -- ---- selections

  -- a change of cells that changes their selection alone
  abbrev pub Selects : (Grid → Grid) → Grid → Type 0
  Selects g cells = (s : Selecting) × IsSelecting cells (g cells) s

  module _ (l : ListOf) (g : Grid → Grid) (x : KeptList) (named : list_of l before.lists.lists ≡ Some x) (selects : Selects g x.kept.cells)
      (stays : (y : KeptList) → list_of l before.lists.lists ≡ Some y → IsSettledList y → IsSettledList (with_cells (g y.kept.cells) y)) where
    abbrev f : KeptList → KeptList
    f y = with_cells (g y.kept.cells) y

    keeps : Keeps f
    keeps = record {
      serial = λ y. refl;
      window = λ y. refl;
      definition = λ y. refl;
      layer = λ y k its. record { part = its.part; shown = its.shown; region = its.region; bounds = its.bounds };
    }

    -- what it highlights otherwise was inverted
    pub toggled_keeps : IsToggled l g x before after → IsRightLists after
    toggled_keeps its =
        let there : slice_get before.lists.lists its.changed.at ≡ Some x = sym (ap (option_and_then (slice_get before.lists.lists)) its.changed.found) ∙ named in
        let names = found_names l.window l.list its.changed.at before.lists.lists x its.changed.found there in
        let there_after : slice_get after.lists.lists its.changed.at ≡ Some (f x) =
        ap (λ (s : ListsState). slice_get s.lists its.changed.at) its.changed.lists ∙ there_edited f its.changed.at before.lists.lists x there in
        let window = there_window (record_with l.window before.desk.windows.desk.windows)
        (ap (λ n. is_missing n before.desk.windows.desk.windows) (sym names.0) ∙ All-there (λ (y : KeptList). is_missing y.window before.desk.windows.desk.windows ≡ false) its.changed.at before.lists.lists x there was.lists.somewhere) in
        let toggled = its.toggled window.0 window.1 in
        let windows : after.desk.windows.desk.windows ≡ before.desk.windows.desk.windows = ap (λ (y : FullDesk). y.windows) toggled.desk in
        let lists = edited_whole before after was.lists l f keeps stays its.changed windows in
        let controls = controls_same windows its.changed.beside.controls in
        let serial : (x.serial == l.list) ≡ true = same_number x.serial l.list names.1 in
        record {
          desk = record {
            right = toggled_right before after was.desk.right was.desk.shows its.shows its.changed.beside was.desk.whole.joined controls.joined l x (g x.kept.cells) selects.0 selects.1
                (with_there l.list its.changed.at before.lists.lists x was.lists.apart there serial)
                (with_there l.list its.changed.at after.lists.lists (f x) lists.apart there_after serial)
                window.0 window.1 toggled
                (lists_edited before.desk.windows.desk after.desk.windows.desk l f keeps.serial before after was.lists.apart its.changed was.lists.joined lists.joined);
            shows = its.shows;
            whole = controls;
          };
          lists = lists;
        }

    -- as its drawing is on or off
    pub toggled_or_not_keeps : (b : Bool) → IsToggledOrNot b l g x before after → IsRightLists after
    toggled_or_not_keeps true done = toggled_keeps done
    toggled_or_not_keeps false done = unseen_keeps l f keeps stays x done
