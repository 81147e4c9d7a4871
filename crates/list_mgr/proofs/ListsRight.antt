-- A right state stays right where one of the lists is changed, put in or taken out.
use Rattle.std.proofs.Common.{◌≡◌, ℕ, Bool, true, false, not, ◌&&◌, ◌==◌, cond, if◌then◌else◌, List, map, Option, Some, refl, sym, ap, ◌∙◌, subst}
use Rattle.std.proofs.lemmas.Bool.{and_parts}
use Rattle.tb_geom.specs.declared.point.Point.{Point}
use Rattle.tb_geom.specs.Points.{PixelSet, minus}
use Rattle.desk_layers.specs.declared.part.Part.{Part}
use Rattle.desk_layers.specs.declared.part.Part.TheVariants as part
use Rattle.desk_layers.specs.Desk.{IsDesk, on_screen}
use Rattle.desk_layers.specs.Owner.{Owner, is_content, own_bit, owner, same_owner}
use Rattle.desk_layers.specs.Owner.Owner.{Content}
use Rattle.desk_layers.specs.Change as plain
use Rattle.desk_layers.proofs.Changing.{stays_right}
use Rattle.desk_layers.proofs.Owning.{same_owner-true}
use Rattle.window_list.specs.declared.layer.Layer.{Layer}
use Rattle.desk_call.specs.declared.list.ListOf.{ListOf}
use Rattle.list_cells.specs.declared.selecting.Selecting.{Selecting}
use Rattle.list_cells.specs.Grids.{Grid}
use Rattle.list_cells.specs.Selections.{IsSelecting}
use Rattle.list_view.specs.Shown.{is_turned, list_shown}
use Rattle.list_view.proofs.TurnLemmas.{turned_shows}
use Rattle.list_mgr.specs.Fields.{with_cells}
use Rattle.vis_update.specs.Records.{WindowRecord}
use Rattle.vis_update.specs.Relayings.{afresh_change, is_part_afresh, with_layers_of}
use Rattle.window_mgr.specs.FullDesk.{AreSerials, FullDesk, IsRightState, layered_desk, layered_state}
use Rattle.window_mgr.specs.Finding.{record_with}
use Rattle.window_mgr.specs.Relayered.{AreLayersSet, IsLayerRedrawn, IsLayerToggled, redrawn_change, toggled_change}
use Rattle.window_mgr.proofs.EachChanged.{numbered_map}
use Rattle.window_mgr.proofs.Running.{unchanged_stays_right}
use Rattle.window_mgr.proofs.Showing.{distinct_showing}
use Rattle.control_mgr.specs.ControlDesks.{ControlsState, ShowsControls}
use Rattle.control_mgr.specs.ControlDesks as controls
use Rattle.control_mgr.proofs.ControlBits.{StayLists, bare, bare_laid, same_own, shown_by}
use Rattle.control_mgr.proofs.Settled.{AreJoined}
use Rattle.list_mgr.specs.ListDesks.{IsListDeskUnchanged, KeptList, ListDesk, list_bit, lists_show, with_controls}
use Rattle.list_mgr.specs.ListDesks as lists
use Rattle.list_mgr.specs.ListSteps.{IsBesideLists, IsLayerMarked, marked_change}

-- the desk is the same but for what layers show: windows and layers are told apart still
distinct_shown : (d e : FullDesk) → e ≡ record d { shows = e.shows } → IsDesk (layered_desk d) → IsDesk (layered_desk e)
distinct_shown d e same distinct = subst (λ (x : FullDesk). IsDesk (layered_desk x)) (sym same) (distinct_showing (λ font. e.shows) d distinct)

-- nothing changed
pub unchanged_right : (before after : ListDesk) → IsRightState before.desk.windows → IsListDeskUnchanged before after → IsRightState after.desk.windows
unchanged_right before after right same = unchanged_stays_right before.desk.windows after.desk.windows right same.desk.windows

-- ---- lists beside the same controls and other layers

module _ (before after : ListDesk) (right : IsRightState before.desk.windows) (shows : ShowsControls (with_controls before)) (showing : ShowsControls (with_controls after))
    (beside : IsBesideLists before after) (was : AreJoined before.controls.controls before.desk.windows.desk.windows)
    (are : AreJoined after.controls.controls after.desk.windows.desk.windows) where
  abbrev d : FullDesk
  d = before.desk.windows.desk

  abbrev e : FullDesk
  e = after.desk.windows.desk

  -- what lists show stays, but for this sort of owners
  abbrev pub Stay : (Owner → Bool) → Type 0
  Stay own = StayLists own d e (lists_show before.others before.lists.lists) (lists_show after.others after.lists.lists)

  -- what a pixel's owner has there, it had there
  its_owner : (p : Point) → (on_screen (layered_desk d) p && same_owner (owner (layered_desk d) p) (owner (layered_desk e) p)) ≡ true → owner (layered_desk d) p ≡ owner (layered_desk e) p
  its_owner p there = same_owner-true (owner (layered_desk d) p) (owner (layered_desk e) p) (and_parts (on_screen (layered_desk d) p) (same_owner (owner (layered_desk d) p) (owner (layered_desk e) p)) there).1

  -- an owner that is not of this sort shows at its pixel what it showed
  same_there : IsDesk (layered_desk e) → e.font ≡ d.font → map bare e.windows ≡ map bare d.windows → (own : Owner → Bool) → Stay own → (p : Point) → owner (layered_desk d) p ≡ owner (layered_desk e) p
      → is_content (owner (layered_desk e) p) ≡ true → own (owner (layered_desk e) p) ≡ false → own_bit (layered_desk d) (owner (layered_desk e) p) p ≡ own_bit (layered_desk e) (owner (layered_desk e) p) p
  same_there distinct font windows own stay p here content other =
      same_own (lists_show before.others before.lists.lists) (lists_show after.others after.lists.lists) d e before.controls.controls after.controls.controls shows showing font windows was are own
      (λ window n there still away. ap (λ (s : ControlsState). controls.with_serial n s.controls) beside.controls) stay
      (λ s n q shown still away r. ap (λ f. f d.font (part.Text n) r) beside.others)
      p (owner (layered_desk e) p) right.plain.desk distinct here refl content other

  -- the window's layers were set
  pub laid_right : (window : ℕ) (ls : List Layer) (afresh : Option Part) → IsDesk (layered_desk e) → Stay (is_part_afresh window afresh)
      → AreLayersSet window ls afresh before.desk.windows after.desk.windows → IsRightState after.desk.windows
  laid_right window ls afresh distinct stay set = record {
    plain = stays_right change (layered_state before.desk.windows) (layered_state after.desk.windows) right.plain sound set.pixels;
    serials = subst (λ (x : FullDesk). AreSerials x.next x.windows) (sym set.desk) (numbered_map (with_layers_of window ls) same_serial d.next d.windows right.serials);
  }
    where
      change : plain.Change
      change = afresh_change window afresh

      same_serial : (w : WindowRecord) → (with_layers_of window ls w).serial ≡ w.serial
      same_serial w = by_test (w.serial == window)
        where
          by_test : (b : Bool) → (cond b (record w { layers = ls }) w).serial ≡ w.serial
          by_test true = refl
          by_test false = refl

      windows : map bare e.windows ≡ map bare d.windows
      windows = ap (λ (x : FullDesk). map bare x.windows) set.desk ∙ bare_laid window ls d.windows

      sound : plain.IsSound change (layered_state before.desk.windows) (layered_desk e)
      sound = record {
        desk = distinct;
        kept = λ p on content fresh taken put redrawn there. same_there distinct (ap (λ (x : FullDesk). x.font) set.desk) windows (is_part_afresh window afresh) stay p (its_owner p there) content fresh;
        right = λ p on taken. absurd (cc);
      }

  module _ (desk : e ≡ record d { shows = e.shows }) where
    distinct : IsDesk (layered_desk e)
    distinct = distinct_shown d e desk right.plain.desk

    -- an owner of the same windows
    same_shown : (own : Owner → Bool) → Stay own → (p : Point) → owner (layered_desk d) p ≡ owner (layered_desk e) p → is_content (owner (layered_desk e) p) ≡ true → own (owner (layered_desk e) p) ≡ false
        → own_bit (layered_desk d) (owner (layered_desk e) p) p ≡ own_bit (layered_desk e) (owner (layered_desk e) p) p
    same_shown own stay p here content other =
        same_there distinct (ap (λ (x : FullDesk). x.font) desk) (ap (λ (x : FullDesk). map bare x.windows) desk) own stay p here content other

    serials : AreSerials e.next e.windows
    serials = subst (λ (x : FullDesk). AreSerials x.next x.windows) (sym desk) right.serials

  -- a list was shown anew
  pub redrawn_right : (l : ListOf) → Stay (λ o. same_owner o (Content l.window (part.List l.list))) → IsLayerRedrawn l.window (part.List l.list) before.desk.windows after.desk.windows → IsRightState after.desk.windows
  redrawn_right l stay its = record {
    plain = stays_right change (layered_state before.desk.windows) (layered_state after.desk.windows) right.plain sound its.pixels;
    serials = serials its.desk;
  }
    where
      change : plain.Change
      change = redrawn_change l.window (part.List l.list)

      sound : plain.IsSound change (layered_state before.desk.windows) (layered_desk e)
      sound = record {
        desk = distinct its.desk;
        kept = λ p on content fresh taken put redrawn there. same_shown its.desk (λ o. same_owner o (Content l.window (part.List l.list))) stay p (its_owner p there) content redrawn;
        right = λ p on taken. absurd (cc);
      }

  -- all that a list owns is to be redrawn
  pub marked_right : (l : ListOf) → Stay (λ o. same_owner o (Content l.window (part.List l.list))) → IsLayerMarked l.window (part.List l.list) before.desk.windows after.desk.windows → IsRightState after.desk.windows
  marked_right l stay its = record {
    plain = stays_right change (layered_state before.desk.windows) (layered_state after.desk.windows) right.plain sound its.pixels;
    serials = serials its.desk;
  }
    where
      change : plain.Change
      change = marked_change l.window (part.List l.list)

      sound : plain.IsSound change (layered_state before.desk.windows) (layered_desk e)
      sound = record {
        desk = distinct its.desk;
        kept = λ p on content fresh taken put redrawn there. same_shown its.desk (λ o. same_owner o (Content l.window (part.List l.list))) stay p (its_owner p there) content put;
        right = λ p on taken. absurd (cc);
      }

  -- what a list highlights otherwise was inverted
  module _ (l : ListOf) (x : KeptList) (cells : Grid) (selected : Selecting) (selecting : IsSelecting x.kept.cells cells selected)
      (was_list : lists.with_serial l.list before.lists.lists ≡ Some x) (is_item : lists.with_serial l.list after.lists.lists ≡ Some (with_cells cells x))
      (w : WindowRecord) (found : record_with l.window d.windows ≡ Some w) where
    abbrev its : Owner
    its = Content l.window (part.List l.list)

    abbrev toggles : List ℕ → PixelSet
    toggles font = is_turned font x.kept.definition.definition x.kept.view x.kept.cells cells

    same_window : (o : Option WindowRecord) (v : WindowRecord) → o ≡ Some v → o ≡ Some w → v ≡ w
    same_window o v e f = cc

    module _ (toggled : IsLayerToggled l.window w.place (part.List l.list) toggles before.desk.windows after.desk.windows) where
      found_after : record_with l.window e.windows ≡ Some w
      found_after = ap (λ (y : FullDesk). record_with l.window y.windows) toggled.desk ∙ found

      value_was : (p : Point) → owner (layered_desk d) p ≡ its → own_bit (layered_desk d) its p ≡ list_shown d.font x.kept.definition.definition x.kept.view x.kept.cells (minus p w.place)
      value_was p here =
          let by = shown_by d l.window (part.List l.list) p right.plain.desk here in
          by.bit_is
          ∙ ap (λ (v : WindowRecord). d.shows (part.List l.list) (minus p v.place)) (same_window (record_with l.window d.windows) by.window by.found found)
          ∙ ap (λ f. f (part.List l.list) (minus p w.place)) shows
          ∙ ap (λ o. list_bit d.font o (minus p w.place)) was_list

      value_is : (p : Point) → owner (layered_desk e) p ≡ its → own_bit (layered_desk e) its p ≡ list_shown d.font x.kept.definition.definition x.kept.view cells (minus p w.place)
      value_is p here =
          let by = shown_by e l.window (part.List l.list) p (distinct toggled.desk) here in
          by.bit_is
          ∙ ap (λ (v : WindowRecord). e.shows (part.List l.list) (minus p v.place)) (same_window (record_with l.window e.windows) by.window by.found found_after)
          ∙ ap (λ f. f (part.List l.list) (minus p w.place)) showing
          ∙ ap (λ o. list_bit e.font o (minus p w.place)) is_item
          ∙ ap (λ (y : FullDesk). list_shown y.font x.kept.definition.definition x.kept.view cells (minus p w.place)) toggled.desk

      turned : (p : Point) → Stay (λ o. same_owner o its) → owner (layered_desk d) p ≡ owner (layered_desk e) p → is_content (owner (layered_desk e) p) ≡ true → (b : Bool) → same_owner (owner (layered_desk e) p) its ≡ b
          → (if b && toggles d.font (minus p w.place) then not (own_bit (layered_desk d) (owner (layered_desk e) p) p) else own_bit (layered_desk d) (owner (layered_desk e) p) p) ≡ own_bit (layered_desk e) (owner (layered_desk e) p) p
      turned p stay here content false other = same_shown toggled.desk (λ o. same_owner o its) stay p here content other
      turned p stay here content true same =
          let is : owner (layered_desk e) p ≡ its = same_owner-true (owner (layered_desk e) p) its same in
          ap (λ o. if toggles d.font (minus p w.place) then not (own_bit (layered_desk d) o p) else own_bit (layered_desk d) o p) is
          ∙ ap (λ v. if toggles d.font (minus p w.place) then not v else v) (value_was p (here ∙ is))
          ∙ sym (turned_shows d.font x.kept.definition.definition x.kept.view x.kept.cells cells selected (minus p w.place) selecting)
          ∙ sym (value_is p is)
          ∙ ap (λ o. own_bit (layered_desk e) o p) (sym is)

      pub toggled_right : Stay (λ o. same_owner o its) → IsRightState after.desk.windows
      toggled_right stay = record {
        plain = stays_right change (layered_state before.desk.windows) (layered_state after.desk.windows) right.plain sound toggled.pixels;
        serials = serials toggled.desk;
      }
        where
          change : plain.Change
          change = toggled_change l.window w.place (part.List l.list) (toggles d.font)

          sound : plain.IsSound change (layered_state before.desk.windows) (layered_desk e)
          sound = record {
            desk = distinct toggled.desk;
            kept = λ p on content fresh taken put redrawn there. turned p stay (its_owner p there) content (same_owner (owner (layered_desk e) p) its) refl;
            right = λ p on taken. absurd (cc);
          }
