-- What a call that disposes of a list changes of pixels, with its scroll bars, is its change.
use Rattle.std.proofs.Common.{◌≡◌, ℕ, Bool, true, false, ◌||◌, Option, None, Some, refl, sym, ap, ◌∙◌}
use Rattle.std.specs.Prelude.{is_none}
use Rattle.std.specs.List.{list_any, remove}
use Rattle.std.proofs.lemmas.Bool.{false≢true}
use Rattle.tb_geom.specs.declared.point.Point.{Point}
use Rattle.desk_layers.specs.declared.part.Part.{Part}
use Rattle.desk_layers.specs.declared.part.Part.TheVariants as part
use Rattle.desk_layers.specs.Desk.{on_screen}
use Rattle.desk_layers.specs.Owner.{Owner, owner}
use Rattle.desk_layers.specs.Owner.Owner.{Content}
use Rattle.desk_layers.specs.Change.{Change, IsChanged, State, no_change}
use Rattle.window_items.specs.Items.{has_serial, items_of}
use Rattle.window_items.proofs.SerialLemmas.{none_in_window}
use Rattle.desk_call.specs.declared.control.ControlOf.{ControlOf}
use Rattle.desk_call.specs.declared.list.ListOf.{ListOf}
use Rattle.window_list.specs.Holders.{part_at}
use Rattle.vis_update.specs.Records.{WindowRecord}
use Rattle.window_mgr.specs.Finding.{record_with}
use Rattle.window_mgr.specs.FullDesk.{layered_desk, layered_state}
use Rattle.control_mgr.specs.ControlDesks.{ControlRecord, ControlsState, index_of}
use Rattle.control_mgr.specs.ControlSteps.{IsControlDisposed, behind_controls}
use Rattle.control_mgr.proofs.Places as control_places
use Rattle.list_mgr.specs.ListDesks.{IsListDeskUnchanged, KeptList, ListDesk, ListsState, with_controls}
use Rattle.list_mgr.specs.ListSteps.{IsBarGone, IsBarGoneIf, IsListDisposed, IsListGone}
use Rattle.list_mgr.proofs.ListsBars.{bar_gone_keeps}
use Rattle.list_mgr.proofs.ListsKept.{IsRightLists}
use Rattle.list_mgr.proofs.ListsLaid.{gone_keeps}
use Rattle.list_mgr.proofs.Places as places
use Rattle.desk_laws.specs.Changes.{is_bar, is_bar_of, is_list}
use Rattle.desk_laws.proofs.GoneParts.{IsAway, IsBarAway, away_removed, control_removed, gone_removed, no_bar, no_list_owner, not_found_away}
use Rattle.desk_laws.proofs.JoinedChanges.{AreOthersKept, gone_then, kept_through}
use Rattle.desk_laws.proofs.PartsThere.{first_control, gone_part, is_part, laid_part, other_part, owners_laid, same_screen, window_part}
use Rattle.desk_laws.proofs.WindowChanges.{unchanged_changes}

-- ---- the steps

abbrev Changes : Change → ListDesk → ListDesk → Type 0
Changes c a b = IsChanged c (layered_state a.desk.windows) (layered_state b.desk.windows)

-- these owners lost pixels at the most, and no pixel of another was changed
record IsTakenAway (these : Owner → Bool) (a b : ListDesk) : Type 0 where
  changed : Changes no_change a b
  kept : AreOthersKept these (layered_desk a.desk.windows.desk) (layered_desk b.desk.windows.desk)

kept_wider : (these wider : Owner → Bool) (a b : ListDesk) → ((o : Owner) → wider o ≡ false → these o ≡ false) → IsTakenAway these a b → IsTakenAway wider a b
kept_wider these wider a b less its = record {
  changed = its.changed;
  kept = record { screen = its.kept.screen; owners = λ p on other. its.kept.owners p on (less _ other) };
}

unchanged_away : (these : Owner → Bool) (a b : ListDesk) → IsRightLists a → IsListDeskUnchanged a b → IsTakenAway these a b
unchanged_away these a b was same = record {
  changed = unchanged_changes a.desk.windows b.desk.windows was.desk.right same.desk.windows;
  kept = record {
    screen = λ p i. on_screen (layered_desk (sym same.desk.windows.desk i)) p;
    owners = λ p on other i. owner (layered_desk (sym same.desk.windows.desk i)) p;
  };
}

list_away : (l : ListOf) (x : KeptList) (a b : ListDesk) → IsRightLists a → IsListGone l x a b → IsTakenAway (is_list l) a b
list_away l x a b was gone = record {
  changed = gone.laid.set.pixels;
  kept = record {
    screen = same_screen l.window gone.laid.layers a.desk.windows.desk b.desk.windows.desk gone.laid.set.desk;
    owners = λ p on other. owners_laid (λ o q. is_list l o ≡ false → o ≡ q) (λ o e. refl) l.window gone.laid.layers a.desk.windows.desk b.desk.windows.desk was.desk.right.plain.desk gone.laid.set.desk removed p other;
  };
}
  where
    removed : (w : WindowRecord) → record_with l.window a.desk.windows.desk.windows ≡ Some w → (q : Point) → is_list l (Content l.window (part_at w.layers q)) ≡ false
        → Content l.window (part_at w.layers q) ≡ Content l.window (part_at gone.laid.layers q)
    removed w found q other = ap (Content l.window)
        (gone_part (part.List l.list) q w.layers (other_part l.window (part.List l.list) (part_at w.layers q) other)
        ∙ sym (ap (λ ks. part_at ks q) (gone.laid.become w found)))

control_away : (c : ControlOf) (a b : ListDesk) → IsRightLists a → IsControlDisposed c (with_controls a) (with_controls b) → IsTakenAway (is_bar c.window (Some c.control)) a b
control_away c a b was gone = record {
  changed = gone.laid.set.pixels;
  kept = record {
    screen = same_screen c.window gone.laid.layers a.desk.windows.desk b.desk.windows.desk gone.laid.set.desk;
    owners = λ p on other. owners_laid (λ o q. is_bar c.window (Some c.control) o ≡ false → o ≡ q) (λ o e. refl) c.window gone.laid.layers a.desk.windows.desk b.desk.windows.desk was.desk.right.plain.desk gone.laid.set.desk removed p other;
  };
}
  where
    x : ControlRecord
    x = gone.control

    names : (x.window ≡ c.window) × (x.serial ≡ c.control)
    names = control_places.found_names c.window c.control gone.at a.controls.controls x gone.found gone.there

    removed : (w : WindowRecord) → record_with c.window a.desk.windows.desk.windows ≡ Some w → (q : Point) → is_bar c.window (Some c.control) (Content c.window (part_at w.layers q)) ≡ false
        → Content c.window (part_at w.layers q) ≡ Content c.window (part_at gone.laid.layers q)
    removed w found q other = ap (Content c.window)
        (was_there
        ∙ control_removed x c.window q behind gone.at a.controls.controls gone.there (sym (λ i. is_part (sym names.0 i) (part.Control (sym names.1 i)) (Content c.window (was_there i))) ∙ other)
        ∙ sym now)
      where
        behind : Part
        behind = part_at (behind_controls w.layers) q

        was_there : part_at w.layers q ≡ first_control (items_of c.window a.controls.controls) q behind
        was_there = window_part c.window a.controls.controls a.desk.windows.desk.windows w was.desk.whole.joined found q

        now : part_at gone.laid.layers q ≡ first_control (items_of c.window (remove a.controls.controls gone.at)) q behind
        now = laid_part c.window None (with_controls a) (with_controls b) gone.laid w found q
            ∙ ap (λ (s : ControlsState). first_control (items_of c.window s.controls) q behind) gone.controls

control_gone : (c : ControlOf) (a b : ListDesk) → IsRightLists a → IsControlDisposed c (with_controls a) (with_controls b) → IsAway c.window c.control b.controls.controls
control_gone c a b was gone =
    let names = control_places.found_names c.window c.control gone.at a.controls.controls gone.control gone.found gone.there in
    none_in_window c.control c.window b.controls.controls
    (ap (λ (s : ControlsState). list_any (has_serial c.control) s.controls) gone.controls
    ∙ ap (λ n. list_any (has_serial n) (remove a.controls.controls gone.at)) (sym names.1)
    ∙ gone_removed gone.at a.controls.controls gone.control was.desk.whole.apart gone.there)

-- a bar, if there was one, was taken away, and is there no more; what was away stays so
record IsBarTaken (window : ℕ) (o : Option ℕ) (a b : ListDesk) : Type 0 where
  taken : IsTakenAway (is_bar window o) a b
  away : IsBarAway window o b.controls.controls
  stays : (n : ℕ) → IsAway window n a.controls.controls → IsAway window n b.controls.controls
  lists : b.lists ≡ a.lists

bar_if_taken : (window n : ℕ) (o : Option ℕ) (a b : ListDesk) → IsRightLists a → index_of (record { window = window; control = n }) a.controls.controls ≡ o
    → IsBarGoneIf (is_none o) (record { window = window; control = n }) a b → IsBarTaken window (Some n) a b
bar_if_taken window n None a b was none same = record {
  taken = unchanged_away (is_bar window (Some n)) a b was same;
  away = ap (λ (s : ControlsState). list_any (has_serial n) (items_of window s.controls)) same.controls ∙ not_found_away window n a.controls.controls none;
  stays = λ k away. ap (λ (s : ControlsState). list_any (has_serial k) (items_of window s.controls)) same.controls ∙ away;
  lists = same.lists;
}
bar_if_taken window n (Some at) a b was some done = record {
  taken = control_away (record { window = window; control = n }) a b was done.0.1.1;
  away = control_gone (record { window = window; control = n }) a b was done.0.1.1;
  stays = λ k away. ap (λ (s : ControlsState). list_any (has_serial k) (items_of window s.controls)) done.0.1.1.controls ∙ away_removed window k done.0.1.1.at a.controls.controls away;
  lists = done.1.lists;
}

bar_taken : (window : ℕ) (o : Option ℕ) (a b : ListDesk) → IsRightLists a → IsBarGone window o a b → IsBarTaken window o a b
bar_taken window None a b was same = record {
  taken = unchanged_away (is_bar window None) a b was same;
  away = tt;
  stays = λ k away. ap (λ (s : ControlsState). list_any (has_serial k) (items_of window s.controls)) same.controls ∙ away;
  lists = same.lists;
}
bar_taken window (Some n) a b was done = bar_if_taken window n (index_of (record { window = window; control = n }) a.controls.controls) a b was refl done

bar_stays : (window : ℕ) (o q : Option ℕ) (a b : ListDesk) → IsBarTaken window q a b → IsBarAway window o a.controls.controls → IsBarAway window o b.controls.controls
bar_stays window None q a b taken away = tt
bar_stays window (Some n) q a b taken away = taken.stays n away

-- ---- the whole call

neither : (a b : Bool) → (a || b) ≡ false → (a ≡ false) × (b ≡ false)
neither false false e = (refl, refl)
neither true b e = absurd (false≢true (sym e))
neither false true e = absurd (false≢true (sym e))

pub list_gone_changes : (l : ListOf) (before after : ListDesk) → IsRightLists before → IsRightLists after → IsListDisposed l before after → Changes no_change before after
list_gone_changes l before after was are (x, first, mid, gone, vertical, horizontal) =
    gone_then these (state before) (state first) (state after) a.kept (kept_through these (layered_desk first.desk.windows.desk) (layered_desk mid.desk.windows.desk) (layered_desk after.desk.windows.desk) b.kept c.kept) none a.changed
    (gone_then these (state first) (state mid) (state after) b.kept c.kept none b.changed c.changed are.desk.right.plain)
    are.desk.right.plain
  where
    state : ListDesk → State
    state d = layered_state d.desk.windows

    these : Owner → Bool
    these o = is_list l o || is_bar_of l.window x o

    one : IsRightLists first
    one = gone_keeps before first was l x gone

    two : IsRightLists mid
    two = bar_gone_keeps first mid one l.window x.kept.vertical vertical

    v : IsBarTaken l.window x.kept.vertical first mid
    v = bar_taken l.window x.kept.vertical first mid one vertical

    h : IsBarTaken l.window x.kept.horizontal mid after
    h = bar_taken l.window x.kept.horizontal mid after two horizontal

    a : IsTakenAway these before first
    a = kept_wider (is_list l) these before first (λ o e. (neither (is_list l o) (is_bar_of l.window x o) e).0) (list_away l x before first was gone)

    b : IsTakenAway these first mid
    b = kept_wider (is_bar l.window x.kept.vertical) these first mid
        (λ o e. (neither (is_bar l.window x.kept.vertical o) (is_bar l.window x.kept.horizontal o) (neither (is_list l o) (is_bar_of l.window x o) e).1).0) v.taken

    c : IsTakenAway these mid after
    c = kept_wider (is_bar l.window x.kept.horizontal) these mid after
        (λ o e. (neither (is_bar l.window x.kept.vertical o) (is_bar l.window x.kept.horizontal o) (neither (is_list l o) (is_bar_of l.window x o) e).1).1) h.taken

    no_such_list : list_any (has_serial l.list) after.lists.lists ≡ false
    no_such_list =
        let names = places.found_names l.window l.list gone.at before.lists.lists x gone.found gone.there in
        ap (λ (s : ListsState). list_any (has_serial l.list) s.lists) (h.lists ∙ v.lists ∙ gone.lists)
        ∙ ap (λ n. list_any (has_serial n) (remove before.lists.lists gone.at)) (sym names.1)
        ∙ gone_removed gone.at before.lists.lists x was.lists.apart gone.there

    either_none : (p q r : Bool) → p ≡ false → q ≡ false → r ≡ false → (p || (q || r)) ≡ false
    either_none p q r e f g = λ i. e i || (f i || g i)

    none : (p : Point) → on_screen (layered_desk after.desk.windows.desk) p ≡ true → these (owner (layered_desk after.desk.windows.desk) p) ≡ false
    none p on = either_none _ _ _
        (no_list_owner l.window l.list after.desk.windows.desk after.lists.lists are.lists.joined no_such_list p)
        (no_bar l.window x.kept.vertical after.desk.windows.desk after.controls.controls are.desk.whole.joined (bar_stays l.window x.kept.vertical x.kept.horizontal mid after h v.away) p)
        (no_bar l.window x.kept.horizontal after.desk.windows.desk after.controls.controls are.desk.whole.joined h.away p)
