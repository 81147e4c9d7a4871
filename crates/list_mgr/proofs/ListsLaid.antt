-- What holds of a desk with lists between calls holds where a list is put behind the others or taken out.
use Rattle.std.proofs.Common.{◌≡◌, ℕ, ◌<◌, true, false, List, map, Option, Some, None, refl, sym, ap, ◌∙◌, subst}
use Rattle.std.specs.List.{remove}
use Rattle.window_items.specs.Items.{are_before, count_of, items_of}
use Rattle.window_items.proofs.LawLemmas.{no_others}
use Rattle.window_items.proofs.WindowLemmas.{found_in}
use Rattle.desk_layers.specs.declared.part.Part.{Part}
use Rattle.desk_layers.specs.declared.part.Part.TheVariants as part
use Rattle.desk_layers.specs.Desk.{IsDesk}
use Rattle.window_list.specs.declared.layer.Layer.{Layer}
use Rattle.desk_call.specs.declared.list.ListOf.{ListOf}
use Rattle.desk_call.specs.declared.list.NewList.{NewList}
use Rattle.desk_call.specs.declared.update.LayerKind.TheVariants.{Lists}
use Rattle.window_paint.specs.Kinds.{is_of}
use Rattle.vis_update.specs.Records.{WindowRecord}
use Rattle.vis_update.specs.Relayings.{is_part_afresh, with_layers_of}
use Rattle.window_mgr.specs.FullDesk.{FullDesk, layered_desk, look_of}
use Rattle.window_mgr.specs.Refused.{is_missing}
use Rattle.control_mgr.specs.ControlDesks.{ControlsState}
use Rattle.control_mgr.specs.ControlSteps.{AreLayersOf}
use Rattle.control_mgr.specs.WholeControls.{AreWholeControls}
use Rattle.control_mgr.proofs.ControlBits.{bare, bare_laid}
use Rattle.control_mgr.proofs.Settled.{joined_laid, somewhere_laid}
use Rattle.list_mgr.specs.ListDesks.{KeptList, ListDesk, ListsState}
use Rattle.list_mgr.specs.ListRefusals.{most_lists}
use Rattle.list_mgr.specs.ListSteps.{AreLaid, AreListLayers, IsListGone, IsListPut, new_list, with_last, without_part}
use Rattle.list_mgr.specs.WholeLists.{AreWholeLists, IsSettledList}
use Rattle.list_mgr.proofs.ListedLayers.{beside_last, beside_lists, beside_without}
use Rattle.list_mgr.proofs.ListsApart.{beside_laid, distinct_windows, unlisted}
use Rattle.list_mgr.proofs.ListsKept.{IsRightLists}
use Rattle.list_mgr.proofs.ListsRight.{laid_right}
use Rattle.list_mgr.proofs.ListsStay.{lists_pushed, lists_removed}
use Rattle.list_mgr.proofs.ListsWhole.{whole_gone, whole_put}

-- controls that are whole are so where a window's layers begin with its controls' still
controls_laid : (s : ℕ) (ks : List Layer) (ws : List WindowRecord) (state : ControlsState) → AreWholeControls ws state → AreLayersOf (items_of s state.controls) ks → AreWholeControls (map (with_layers_of s ks) ws) state
controls_laid s ks ws state whole its = record {
  settled = whole.settled;
  apart = whole.apart;
  given = whole.given;
  somewhere = somewhere_laid s ks ws state.controls whole.somewhere;
  few = whole.few;
  joined = joined_laid s ks state.controls state.controls ws its (λ t away. refl) whole.joined;
  stocked = whole.stocked;
}

module _ (before after : ListDesk) (was : IsRightLists before) where
  abbrev d : FullDesk
  d = before.desk.windows.desk

  abbrev e : FullDesk
  e = after.desk.windows.desk

  module _ (window : ℕ) (relaid : List Layer → List Layer) (afresh : Option Part) (laid : AreLaid window relaid afresh before after) (same : after.controls ≡ before.controls) where
    windows_are : e.windows ≡ map (with_layers_of window laid.layers) d.windows
    windows_are = ap (λ (x : FullDesk). x.windows) laid.set.desk

    controls_are : AreWholeControls e.windows after.controls
    controls_are =
        subst (λ (x : List WindowRecord × ControlsState). AreWholeControls x.0 x.1) (λ i. (sym windows_are i, sym same i))
        (controls_laid window laid.layers d.windows before.controls was.desk.whole (subst (λ (s : ControlsState). AreLayersOf (items_of window s.controls) laid.layers) same laid.controls))

    -- the layers beside its lists are as they were
    pub beside_are : ((ks : List Layer) → beside_lists (relaid ks) ≡ beside_lists ks) → map unlisted e.windows ≡ map unlisted d.windows
    beside_are stay = ap (map unlisted) windows_are ∙ beside_laid (look_of d) window laid.layers d.windows was.desk.right.plain.desk (λ w found. ap beside_lists (laid.become w found) ∙ stay w.layers)

    distinct_are : ((ks : List Layer) → beside_lists (relaid ks) ≡ beside_lists ks) → AreWholeLists e.windows after.lists → IsDesk (layered_desk e)
    distinct_are stay lists =
        distinct_windows (look_of d) (look_of e) after.lists.lists d.windows e.windows lists.apart (ap (map bare) windows_are ∙ bare_laid window laid.layers d.windows)
        (beside_are stay) lists.joined was.desk.right.plain.desk

  -- a list was put behind the others
  pub put_keeps : (n : NewList) (serial : ℕ) (vertical horizontal : Option ℕ) (put : IsListPut n serial vertical horizontal before after)
      → IsSettledList (new_list n serial put.flags vertical horizontal (record { definition = put.begun; slot = put.loan.slot })) → is_missing n.window d.windows ≡ false
      → count_of n.window before.lists.lists < most_lists → IsRightLists after
  put_keeps n serial vertical horizontal put settled there room = record {
    desk = record {
      right = laid_right before after was.desk.right was.desk.shows put.laid.shows put.beside was.desk.whole.joined controls.joined n.window put.laid.layers (Some (part.List serial)) (distinct_are n.window (with_last put.layer) (Some (part.List serial)) put.laid put.beside.controls (λ ks. beside_last ks put.layer (ap (is_of Lists) put.its.part)) lists)
          (lists_pushed d e (is_part_afresh n.window (Some (part.List serial))) before.others after.others before.lists.lists after.lists.lists one put.lists was.lists.joined lists.joined) put.laid.set;
      shows = put.laid.shows;
      whole = controls;
    };
    lists = lists;
  }
    where
      one : KeptList
      one = new_list n serial put.flags vertical horizontal (record { definition = put.begun; slot = put.loan.slot })

      controls : AreWholeControls e.windows after.controls
      controls = controls_are n.window (with_last put.layer) (Some (part.List serial)) put.laid put.beside.controls

      lists : AreWholeLists e.windows after.lists
      lists =
          subst (λ (x : List WindowRecord × ListsState). AreWholeLists x.0 x.1)
          (λ i. (sym (windows_are n.window (with_last put.layer) (Some (part.List serial)) put.laid put.beside.controls) i, record { lists = sym put.lists i; next = sym put.next i; stock = after.lists.stock }))
          (whole_put one put.loan.definition n.kind put.laid.layers d.windows before.lists after.lists.stock was.lists put.serials
          (no_others one before.lists.lists (subst (λ o. are_before o before.lists.lists ≡ true) put.serials was.lists.given))
          settled there room put.taken (subst (λ xs. AreListLayers (items_of n.window xs) put.laid.layers) put.lists put.laid.lists))

  -- a list was taken out
  pub gone_keeps : (l : ListOf) (x : KeptList) → IsListGone l x before after → IsRightLists after
  gone_keeps l x gone = record {
    desk = record {
      right = laid_right before after was.desk.right was.desk.shows gone.laid.shows gone.beside was.desk.whole.joined controls.joined l.window gone.laid.layers None (distinct_are l.window (without_part (part.List l.list)) None gone.laid gone.beside.controls (beside_without l.list) lists)
          (lists_removed d e (is_part_afresh l.window None) before.others after.others before.lists.lists after.lists.lists gone.at was.lists.apart removed was.lists.joined lists.joined) gone.laid.set;
      shows = gone.laid.shows;
      whole = controls;
    };
    lists = lists;
  }
    where
      removed : after.lists.lists ≡ remove before.lists.lists gone.at
      removed = ap (λ (s : ListsState). s.lists) gone.lists

      controls : AreWholeControls e.windows after.controls
      controls = controls_are l.window (without_part (part.List l.list)) None gone.laid gone.beside.controls

      lists : AreWholeLists e.windows after.lists
      lists =
          subst (λ (y : List WindowRecord × ListsState). AreWholeLists y.0 y.1) (λ i. (sym (windows_are l.window (without_part (part.List l.list)) None gone.laid gone.beside.controls) i, sym gone.lists i))
          (whole_gone gone.at l.window x gone.laid.layers d.windows before.lists after.lists.stock was.lists gone.there (found_in l.window l.list gone.at before.lists.lists gone.found) gone.shut
          (subst (λ xs. AreListLayers (items_of l.window xs) gone.laid.layers) removed gone.laid.lists))
