-- What a call that makes a list or disposes of one changes of pixels, with its scroll bars, is its change.
use Rattle.std.proofs.Common.{◌≡◌, ℕ, Bool, true, false, ◌==◌, ◌&&◌, ◌||◌, if◌then◌else◌, List, [], ◌∷◌, ◌++◌, length, Option, None, Some, refl, sym, ap, ◌∙◌, subst, eqb-true}
use Rattle.std.specs.Prelude.{slice_get}
use Rattle.std.specs.Option.{option_map_or}
use Rattle.std.proofs.lemmas.Bool.{false≢true}
use Rattle.tb_geom.specs.declared.point.Point.{Point}
use Rattle.desk_layers.specs.declared.part.Part.{Part}
use Rattle.desk_layers.specs.declared.part.Part.TheVariants as part
use Rattle.desk_layers.specs.Desk.{on_screen}
use Rattle.desk_layers.specs.Owner.{Owner, owner}
use Rattle.desk_layers.specs.Owner.Owner.{Content}
use Rattle.desk_layers.specs.Change.{Change, IsChanged, no_change}
use Rattle.desk_layers.proofs.Owning.{same_number, same_part-self}
use Rattle.window_items.specs.Items.{is_in, items_of}
use Rattle.window_items.proofs.SerialLemmas.{with_there}
use Rattle.desk_call.specs.declared.control.ControlReply.TheVariants as control_reply
use Rattle.desk_call.specs.declared.control.NewControl.{NewControl}
use Rattle.desk_call.specs.declared.list.ListOf.{ListOf}
use Rattle.desk_call.specs.declared.list.NewList.{NewList}
use Rattle.window_list.specs.Holders.{part_at}
use Rattle.vis_update.specs.Records.{WindowRecord}
use Rattle.window_mgr.specs.Finding.{record_with}
use Rattle.window_mgr.specs.FullDesk.{IsRightState, layered_desk, layered_state}
use Rattle.control_mgr.specs.ControlDesks.{ControlRecord}
use Rattle.control_mgr.specs.ControlSteps.{IsControlMade, behind_controls, new_control}
use Rattle.list_mgr.specs.ListDesks.{IsListDeskUnchanged, KeptList, ListDesk, ListsState, with_controls}
use Rattle.list_mgr.specs.ListDesks as lists
use Rattle.list_mgr.specs.ListSteps.{IsBarMade, IsListMade, IsListPut, horizontal_bar_of, new_list, vertical_bar_of, with_last}
use Rattle.list_mgr.proofs.ListsBars.{bar_made_keeps, bar_made_lists}
use Rattle.list_mgr.proofs.ListsKept.{IsRightLists}
use Rattle.desk_toolbox.specs.ToolboxStates.{ToolboxState, with_lists}
use Rattle.desk_laws.specs.Changes.{is_bar, is_bar_of, is_list, list_made}
use Rattle.desk_laws.proofs.JoinedChanges.{AreOthersSame, drawing, drawn_then}
use Rattle.desk_laws.proofs.PartsThere.{control_has, first_control, is_part, laid_part, last_part, other_part, owners_laid, same_screen, window_part}
use Rattle.desk_laws.proofs.WindowChanges.{unchanged_changes}

-- ---- one control more

-- an item of this window is one of this window
pub in_window : (s window : ℕ) (its : Part) → (window == s) ≡ true → is_part window its (Content s its) ≡ true
in_window s window its e = λ i. same_number' i && same_part-self its i
  where
    same_number' : (s == window) ≡ true
    same_number' = ap (λ n. n == window) (sym (eqb-true window s e)) ∙ same_number window

-- one control more behind the others: another part has what it had
control_pushed : (c : ControlRecord) (s : ℕ) (q : Point) (behind : Part) (cs : List ControlRecord)
    → is_part c.window (part.Control c.serial) (Content s (first_control (items_of s (cs ++ c ∷ [])) q behind)) ≡ false
    → first_control (items_of s cs) q behind ≡ first_control (items_of s (cs ++ c ∷ [])) q behind
control_pushed c s q behind [] other = by_window (is_in s c) refl other
  where
    by_point : (b : Bool) → is_in s c ≡ true → is_part c.window (part.Control c.serial) (Content s (if b then part.Control c.serial else behind)) ≡ false → behind ≡ (if b then part.Control c.serial else behind)
    by_point true here other = absurd (false≢true (sym other ∙ in_window s c.window (part.Control c.serial) here))
    by_point false here other = refl

    by_window : (b : Bool) → is_in s c ≡ b → is_part c.window (part.Control c.serial) (Content s (first_control (if b then c ∷ [] else []) q behind)) ≡ false → behind ≡ first_control (if b then c ∷ [] else []) q behind
    by_window true here other = by_point (control_has c q) here other
    by_window false away other = refl
control_pushed c s q behind (x ∷ xs) other = by_window (is_in s x) (control_has x q) (control_pushed c s q behind xs) other
  where
    by_window : (b h : Bool) → (is_part c.window (part.Control c.serial) (Content s (first_control (items_of s (xs ++ c ∷ [])) q behind)) ≡ false → first_control (items_of s xs) q behind ≡ first_control (items_of s (xs ++ c ∷ [])) q behind)
        → is_part c.window (part.Control c.serial) (Content s (first_control (if b then x ∷ items_of s (xs ++ c ∷ []) else items_of s (xs ++ c ∷ [])) q behind)) ≡ false
        → first_control (if b then x ∷ items_of s xs else items_of s xs) q behind ≡ first_control (if b then x ∷ items_of s (xs ++ c ∷ []) else items_of s (xs ++ c ∷ [])) q behind
    by_window true h rest other = by_point (control_has x q) other
      where
        by_point : (h : Bool) → is_part c.window (part.Control c.serial) (Content s (if h then part.Control x.serial else first_control (items_of s (xs ++ c ∷ [])) q behind)) ≡ false
            → (if h then part.Control x.serial else first_control (items_of s xs) q behind) ≡ (if h then part.Control x.serial else first_control (items_of s (xs ++ c ∷ [])) q behind)
        by_point true other = refl
        by_point false other = rest other
    by_window false h rest other = rest other

-- ---- lists that are made

-- where nothing changed, all owners are the same
pub unchanged_others : (these : Owner → Bool) (a b : ListDesk) → IsListDeskUnchanged a b → AreOthersSame these (layered_desk a.desk.windows.desk) (layered_desk b.desk.windows.desk)
unchanged_others these a b same = record {
  screen = λ p i. on_screen (layered_desk (sym same.desk.windows.desk i)) p;
  owners = λ p on other i. owner (layered_desk (sym same.desk.windows.desk i)) p;
}

abbrev Changes : Change → ListDesk → ListDesk → Type 0
Changes c a b = IsChanged c (layered_state a.desk.windows) (layered_state b.desk.windows)

-- a scroll bar, or none, was drawn, and the other owners are what they were
record IsBarDrawn (window : ℕ) (serial : Option ℕ) (a b : ListDesk) : Type 0 where
  changed : Changes (drawing (is_bar window serial)) a b
  others : AreOthersSame (is_bar window serial) (layered_desk a.desk.windows.desk) (layered_desk b.desk.windows.desk)

bar_drawn : (wanted : Bool) (n : NewControl) (serial : Option ℕ) (a b : ListDesk) → IsRightLists a → IsRightLists b → IsBarMade wanted n serial a b → IsBarDrawn n.window serial a b
bar_drawn false n serial a b was are (none, same) = subst (λ o. IsBarDrawn n.window o a b) (sym none) (record {
  changed = unchanged_changes a.desk.windows b.desk.windows was.desk.right same.desk.windows;
  others = unchanged_others (is_bar n.window None) a b same;
})
bar_drawn true n serial a b was are ((c, is, step), same) = subst (λ o. IsBarDrawn n.window o a b) (sym is) (record {
  changed = subst (λ k. Changes (drawing (is_bar n.window (Some k))) a b) (sym number) done.laid.set.pixels;
  others = record {
    screen = same_screen n.window done.laid.layers a.desk.windows.desk b.desk.windows.desk done.laid.set.desk;
    owners = λ p on other. owners_laid (λ o q. is_bar n.window (Some c) q ≡ false → o ≡ q) (λ o e. refl) n.window done.laid.layers a.desk.windows.desk b.desk.windows.desk was.desk.right.plain.desk done.laid.set.desk pushed p other;
  };
})
  where
    done : IsControlMade n step.1.0 (with_controls a) (with_controls b)
    done = step.1.2

    same_made : (x y : ℕ) → control_reply.Made x ≡ control_reply.Made y → x ≡ y
    same_made x y e = cc

    number : c ≡ step.1.0
    number = same_made c step.1.0 step.1.1

    one : ControlRecord
    one = new_control n step.1.0 done.loan.slot done.begun

    pushed : (w : WindowRecord) → record_with n.window a.desk.windows.desk.windows ≡ Some w → (q : Point) → is_bar n.window (Some c) (Content n.window (part_at done.laid.layers q)) ≡ false
        → Content n.window (part_at w.layers q) ≡ Content n.window (part_at done.laid.layers q)
    pushed w found q other = ap (Content n.window)
        (window_part n.window a.controls.controls a.desk.windows.desk.windows w was.desk.whole.joined found q
        ∙ control_pushed one n.window q behind a.controls.controls (sym (λ i. is_part n.window (part.Control (number i)) (Content n.window (now i))) ∙ other)
        ∙ sym now)
      where
        behind : Part
        behind = part_at (behind_controls w.layers) q

        now : part_at done.laid.layers q ≡ first_control (items_of n.window (a.controls.controls ++ one ∷ [])) q behind
        now = laid_part n.window (Some (part.Control step.1.0)) (with_controls a) (with_controls b) done.laid w found q
            ∙ ap (λ cs. first_control (items_of n.window cs) q behind) done.controls

-- the list was put behind the others and drawn, and the other owners are what they were
put_others : (n : NewList) (serial : ℕ) (vertical horizontal : Option ℕ) (a b : ListDesk) → IsRightLists a → IsListPut n serial vertical horizontal a b
    → AreOthersSame (is_list (record { window = n.window; list = serial })) (layered_desk a.desk.windows.desk) (layered_desk b.desk.windows.desk)
put_others n serial vertical horizontal a b was put = record {
  screen = same_screen n.window put.laid.layers a.desk.windows.desk b.desk.windows.desk put.laid.set.desk;
  owners = λ p on other. owners_laid (λ o q. is_list (record { window = n.window; list = serial }) q ≡ false → o ≡ q) (λ o e. refl) n.window put.laid.layers a.desk.windows.desk b.desk.windows.desk was.desk.right.plain.desk put.laid.set.desk pushed p other;
}
  where
    pushed : (w : WindowRecord) → record_with n.window a.desk.windows.desk.windows ≡ Some w → (q : Point) → is_list (record { window = n.window; list = serial }) (Content n.window (part_at put.laid.layers q)) ≡ false
        → Content n.window (part_at w.layers q) ≡ Content n.window (part_at put.laid.layers q)
    pushed w found q other = ap (Content n.window)
        (last_part put.layer (part.List serial) q put.its.part w.layers (other_part n.window (part.List serial) (part_at (with_last put.layer w.layers) q) (sym (ap (λ p. is_part n.window (part.List serial) (Content n.window p)) now) ∙ other))
        ∙ sym now)
      where
        now : part_at put.laid.layers q ≡ part_at (with_last put.layer w.layers) q
        now = ap (λ ks. part_at ks q) (put.laid.become w found)

last_there : (ls : List KeptList) (l : KeptList) → slice_get (ls ++ l ∷ []) (length ls) ≡ Some l
last_there [] l = refl
last_there (x ∷ xs) l = last_there xs l

-- the list that was made, and its scroll bars
either_way : (a b c : Bool) → (a || (b || c)) ≡ (b || (c || a))
either_way true true c = refl
either_way true false true = refl
either_way true false false = refl
either_way false true c = refl
either_way false false true = refl
either_way false false false = refl

both_bars : (window : ℕ) (vertical horizontal : Option ℕ) (l : ListOf) (a b c d : ListDesk) → IsBarDrawn window vertical a b → IsBarDrawn window horizontal b c → IsRightState d.desk.windows
    → Changes (drawing (is_list l)) c d → AreOthersSame (is_list l) (layered_desk c.desk.windows.desk) (layered_desk d.desk.windows.desk)
    → Changes (drawing (λ o. is_list l o || (is_bar window vertical o || is_bar window horizontal o))) a d
both_bars window vertical horizontal l a b c d first second right changed others =
    let state = λ (x : ListDesk). layered_state x.desk.windows in
    let two = drawn_then (is_bar window horizontal) (is_list l) (λ o. is_bar window horizontal o || is_list l o) (state b) (state c) (state d) others second.others.screen second.changed changed (λ o. refl) right.plain in
    drawn_then (is_bar window vertical) (λ o. is_bar window horizontal o || is_list l o) (λ o. is_list l o || (is_bar window vertical o || is_bar window horizontal o)) (state a) (state b) (state d)
    (record {
      screen = λ p. second.others.screen p ∙ others.screen p;
      owners = λ p on none.
          let parts = neither (is_bar window horizontal (owner (layered_desk d.desk.windows.desk) p)) (is_list l (owner (layered_desk d.desk.windows.desk) p)) none in
          let last = others.owners p on parts.1 in
          second.others.owners p (others.screen p ∙ on) (ap (is_bar window horizontal) last ∙ parts.0) ∙ last;
    })
    first.others.screen first.changed two (λ o. either_way (is_list l o) (is_bar window vertical o) (is_bar window horizontal o)) right.plain
  where
    neither : (x y : Bool) → (x || y) ≡ false → (x ≡ false) × (y ≡ false)
    neither false false e = (refl, refl)
    neither true y e = absurd (false≢true (sym e))
    neither false true e = absurd (false≢true (sym e))

pub list_made_changes : (n : NewList) (serial : ℕ) (before after : ToolboxState) → IsRightLists (with_lists before) → IsRightLists (with_lists after) → IsListMade n serial (with_lists before) (with_lists after)
    → IsChanged (list_made n.window before after) (layered_state before.desk.windows) (layered_state after.desk.windows)
list_made_changes n serial before after was are (first, mid, vertical, horizontal, bar, other, put) =
    subst (λ c. IsChanged c (layered_state before.desk.windows) (layered_state after.desk.windows)) (sym change_is)
    (both_bars n.window vertical horizontal (record { window = n.window; list = serial }) (with_lists before) first mid (with_lists after)
    (bar_drawn n.vertical_bar (vertical_bar_of n) vertical (with_lists before) first was one bar) (bar_drawn n.horizontal_bar (horizontal_bar_of n) horizontal first mid one two other) are.desk.right
    put.laid.set.pixels (put_others n serial vertical horizontal mid (with_lists after) two put))
  where
    one : IsRightLists first
    one = bar_made_keeps (with_lists before) first was n.vertical_bar (vertical_bar_of n) vertical bar

    two : IsRightLists mid
    two = bar_made_keeps first mid one n.horizontal_bar (horizontal_bar_of n) horizontal other

    made : KeptList
    made = new_list n serial put.flags vertical horizontal (record { definition = put.begun; slot = put.loan.slot })

    next : before.lists.next ≡ Some serial
    next = sym (ap (λ (s : ListsState). s.next) (bar_made_lists first mid one n.horizontal_bar (horizontal_bar_of n) horizontal other ∙ bar_made_lists (with_lists before) first was n.vertical_bar (vertical_bar_of n) vertical bar)) ∙ put.serials

    found : lists.with_serial serial after.lists.lists ≡ Some made
    found = with_there serial (length mid.lists.lists) after.lists.lists made are.lists.apart (ap (λ ls. slice_get ls (length mid.lists.lists)) put.lists ∙ last_there mid.lists.lists made) (same_number serial)

    change_is : list_made n.window before after ≡ drawing (λ o. is_list (record { window = n.window; list = serial }) o || is_bar_of n.window made o)
    change_is =
        ap (λ o. option_map_or (λ k. option_map_or (λ (x : KeptList). record no_change { afresh = λ o p. is_list (record { window = n.window; list = k }) o || is_bar_of n.window x o }) (lists.with_serial k after.lists.lists) no_change) o no_change) next
        ∙ ap (λ o. option_map_or (λ (x : KeptList). record no_change { afresh = λ o p. is_list (record { window = n.window; list = serial }) o || is_bar_of n.window x o }) o no_change) found
