-- A list that was changed where it stands, and shown anew or marked: what that leaves of windows and lists.
use Rattle.std.proofs.Common.{◌≡◌, inl, inr, ℕ, ◌<◌, ◌==◌, ◌&&◌, ◌||◌, Bool, true, false, not, List, [], length, get_or, set, Option, Some, None, Result, Err, refl, sym, ap, ◌∙◌, subst}
use Rattle.std.specs.Option.{option_map_or}
use Rattle.std.specs.Prelude.{slice_get}
use Rattle.std.proofs.lemmas.List.{set-get_or}
use Rattle.tb_geom.specs.declared.refusal.Refusal.{Refusal}
use Rattle.tb_geom.specs.declared.refusal.Refusal.TheVariants.{NoMemory}
use Rattle.tb_geom.specs.Points.{minus}
use Rattle.tb_geom.specs.declared.point.Point.{Point}
use Rattle.tb_geom.specs.declared.rect.Rect.{Rect}
use Rattle.tb_geom.specs.Pixels.{Pixels, holds}
use Rattle.tb_geom.specs.Rects.{rect_holds}
use Rattle.tb_geom.specs.Refusals.{first_refusal}
use Rattle.desk_layers.specs.declared.part.Part.TheVariants as part
use Rattle.def_iface.specs.Slots.{TakenBox}
use Rattle.def_iface.specs.ListMeaning.{ListLoan}
use Rattle.def_iface.specs.WindowMeaning.{WindowLoan}
use Rattle.def_iface.specs.WindowSlots.{WindowSlot}
use Rattle.desk_layers.proofs.Owning.{same_number}
use Rattle.list_cells.specs.Grids.{Grid}
use Rattle.window_items.specs.declared.item.Item.{Item}
use Rattle.list_mgr.specs.declared.list_record.ListRecord.{ListRecord}
use Rattle.window_items.specs.Items.{edit_at}
use Rattle.list_mgr.specs.Fields.{with_cells}
use Rattle.list_mgr.specs.Seen.{all_seen, seen, kept_seen}
use Rattle.window_items.proofs.ListLemmas.{set_is_edit}
use Rattle.window_items.proofs.SeenLemmas.{length-seen, edit_at-seen}
use Rattle.window_items.proofs.WindowLemmas.{item_index-edit_at}
use Rattle.window_list.specs.Holders.{belongs_to}
use Rattle.desk_call.specs.declared.list.ListCall.{ListCall}
use Rattle.desk_call.specs.declared.list.ListOf.{ListOf}
use Rattle.desk_call.specs.declared.list.ListReply.{ListReply}
use Rattle.vis_update.specs.Records.{WindowRecord}
use Rattle.window_mgr.specs.declared.manager.WindowManager.{WindowManager}
use Rattle.window_mgr.specs.DeskStates.{Opened}
use Rattle.window_mgr.specs.FullDesk.{FullDesk, IsRightState}
use Rattle.window_mgr.specs.Records.{desk_of, state_of, state_showing}
use Rattle.window_mgr.specs.Relayered.{IsLayerRedrawn}
use Rattle.window_mgr.specs.Whole.{IsWholeManager}
use Rattle.control_mgr.specs.ControlDesks.{ControlsState, controls_show}
use Rattle.control_mgr.proofs.Places.{IsThere, within}
use Rattle.list_mgr.specs.declared.lists.Lists.{Lists}
use Rattle.list_mgr.specs.declared.spots.ListAt.{ListAt}
use Rattle.list_mgr.specs.Changing.{IsDrawing, IsMark, IsSameOrNot, IsShownOrMarked}
use Rattle.list_mgr.specs.ListDesks.{IsListDeskUnchanged, KeptList, ListDesk, ListSlot, index_of, list_bit, lists_show, with_serial}
use Rattle.list_mgr.specs.ListRefusals.{is_drawing_off, may_list_grow}
use Rattle.list_mgr.specs.ListSteps.{IsChangedTo, IsLayerMarked, IsListChanged, IsListStep, IsSeenOrNot, with_grid}
use Rattle.list_mgr.specs.Spots.{IsSpot, IsSpotOf}
use Rattle.list_mgr.specs.WholeLists.{AreBeside, AreWholeLists, IsChangedOver, IsSettledList, list_desk, lists_state, records_of}
use Rattle.list_mgr.specs.Within.{IsSameOutside, IsWhereRight}
use Rattle.list_mgr.proofs.Edited.{Keeps, whole_edited}
use Rattle.window_items.proofs.SerialLemmas.{with_there}
use Rattle.list_mgr.proofs.Places.{found_names}
use Rattle.list_mgr.proofs.Steps.{IsTold, list_named, list_there}
use Rattle.window_items.proofs.EditLemmas.{All-there, edit_alike, edit_nothing, there_edited}
use Rattle.tb_geom.specs.Points.{PixelSet}
use Rattle.desk_layers.specs.declared.part.Part.{Part}

pub same_item : (ls : List KeptList) (at : ℕ) (x y : KeptList) → slice_get ls at ≡ Some x → slice_get ls at ≡ Some y → x ≡ y
same_item ls at x y e f = let both : Some x ≡ Some y = sym e ∙ f in cc

-- the cells of a list changed so, which keeps all else of it
pub grid_keeps : (g : Grid → Grid) → Keeps (with_grid g)
grid_keeps g = record { serial = λ x. refl; window = λ x. refl; definition = λ x. refl; layer = λ x k is. record { part = is.part; shown = is.shown; region = is.region; bounds = is.bounds } }

pub grid_or_not : (changes : Bool) (g : Grid → Grid) (x : KeptList) → IsSameOrNot changes (g x.kept.cells) x.kept.cells → IsSameOrNot changes (with_grid g x) x
grid_or_not true g x other = λ same. other (ap (λ (y : KeptList). y.kept.cells) same)
grid_or_not false g x same = ap (λ (cells : Grid). with_cells cells x) same

-- ---- lists of which the cells of one were written over

module _ {X : Type 0} {L : X → Type 0} (list_loan : TakenBox X L → ListLoan) where
  pub cells_written : (g : Grid → Grid) (xs : List (Item (ListRecord (TakenBox X L)))) (at : ℕ) (x : Item (ListRecord (TakenBox X L))) (cells : Grid) → x ≡ get_or xs at x → at < length xs
      → slice_get (all_seen list_loan xs) at ≡ Some (seen list_loan x) → cells ≡ g x.kept.cells → all_seen list_loan (set xs at (with_cells cells x)) ≡ edit_at (with_grid g) at (all_seen list_loan xs)
  cells_written g xs at x cells read low there now =
      ap (all_seen list_loan) (set_is_edit (with_cells cells) xs at x read)
      ∙ edit_at-seen (kept_seen list_loan) (with_cells cells) (with_cells cells) (λ l. refl) at xs
      ∙ edit_alike (with_cells cells) (with_grid g) at (all_seen list_loan xs)
      (λ y e. let same : seen list_loan x ≡ y = same_item (all_seen list_loan xs) at (seen list_loan x) y there e in ap (λ (k : Grid). with_cells k y) (now ∙ ap (λ (z : KeptList). g z.kept.cells) same))

  -- by what they were
  pub cells_kept : (xs : List (Item (ListRecord (TakenBox X L)))) (at : ℕ) (x : Item (ListRecord (TakenBox X L))) (cells : Grid) → x ≡ get_or xs at x → cells ≡ x.kept.cells
      → all_seen list_loan (set xs at (with_cells cells x)) ≡ all_seen list_loan xs
  cells_kept xs at x cells read same =
      ap (λ (k : Grid). all_seen list_loan (set xs at (with_cells k x))) same
      ∙ ap (λ (y : Item (ListRecord (TakenBox X L))). all_seen list_loan (set xs at y)) read
      ∙ ap (all_seen list_loan) (set-get_or xs at x)

-- ---- steps that change nothing

module _ {V : Type 0} {H : V → Type 0} (loan : TakenBox V H → WindowLoan) {X : Type 0} {L : X → Type 0} (list_loan : TakenBox X L → ListLoan)
    (t : WindowManager V H) (m n : Lists (TakenBox X L)) (same : records_of list_loan n ≡ records_of list_loan m) (next : n.list.next ≡ m.list.next) where
  lists_same : (kept : List ListSlot) → lists_state list_loan n kept ≡ lists_state list_loan m kept
  lists_same kept = λ i. record { lists = same i; next = next i; stock = kept }

  pub unchanged_so : (others : List ℕ → Part → PixelSet) (o : Opened) (slots : List WindowSlot) (cs : ControlsState) (kept : List ListSlot)
      → IsListDeskUnchanged (list_desk list_loan loan t others o slots cs m kept) (list_desk list_loan loan t others o slots cs n kept)
  unchanged_so others o slots cs kept = record {
    desk = record {
      windows = record { desk = λ i. record (desk_of loan t slots) { shows = controls_show (lists_show others (same i)) cs.controls t.font }; stale = λ p on. refl; image = λ p on. refl };
      activity = refl;
      begun = refl;
    };
    controls = refl;
    lists = lists_same kept;
    others = refl;
  }

  -- a refused call
  pub refused_over : (call : ListCall) (result : Result ListReply Refusal) (e : Refusal) → result ≡ Err e → IsTold loan list_loan call t m (λ why. first_refusal why ≡ Some e)
      → IsChangedOver list_loan loan (IsListStep call result) t m t n
  refused_over call result e is why others o slots cs kept whole lists = (
    whole,
    refl,
    subst (AreWholeLists (desk_of loan t []).windows) (sym (lists_same kept)) lists,
    subst (λ r. IsListStep call r (list_desk list_loan loan t others o slots cs m kept) (list_desk list_loan loan t others o slots cs n kept)) (sym is) (inl (why others o slots cs kept), unchanged_so others o slots cs kept),
  )

  -- one for which there was no memory
  pub short_over : (call : ListCall) (result : Result ListReply Refusal) (e : Refusal) → result ≡ Err e → e ≡ NoMemory → ((kept : List ListSlot) → may_list_grow call (lists_state list_loan m kept) ≡ true)
      → IsTold loan list_loan call t m (λ why. first_refusal why ≡ None) → IsChangedOver list_loan loan (IsListStep call result) t m t n
  short_over call result e is memory grows why others o slots cs kept whole lists = (
    whole,
    refl,
    subst (AreWholeLists (desk_of loan t []).windows) (sym (lists_same kept)) lists,
    subst (λ r. IsListStep call r (list_desk list_loan loan t others o slots cs m kept) (list_desk list_loan loan t others o slots cs n kept)) (sym is)
        (inr (why others o slots cs kept, (grows kept, memory)), unchanged_so others o slots cs kept),
  )

  -- so where the screen was right
  pub refused_over_right : (call : ListCall) (result : Result ListReply Refusal) (e : Refusal) → result ≡ Err e → IsTold loan list_loan call t m (λ why. first_refusal why ≡ Some e)
      → IsChangedOver list_loan loan (IsWhereRight (IsListStep call result)) t m t n
  refused_over_right call result e is why others o slots cs kept whole lists =
      let left = refused_over call result e is why others o slots cs kept whole lists in
      (left.0, left.1, left.2, λ right. left.3)

  pub short_over_right : (call : ListCall) (result : Result ListReply Refusal) (e : Refusal) → result ≡ Err e → e ≡ NoMemory → ((kept : List ListSlot) → may_list_grow call (lists_state list_loan m kept) ≡ true)
      → IsTold loan list_loan call t m (λ why. first_refusal why ≡ None) → IsChangedOver list_loan loan (IsWhereRight (IsListStep call result)) t m t n
  short_over_right call result e is memory grows why others o slots cs kept whole lists =
      let left = short_over call result e is memory grows why others o slots cs kept whole lists in
      (left.0, left.1, left.2, λ right. left.3)

-- ---- a list that was changed

module _ {V : Type 0} {H : V → Type 0} (loan : TakenBox V H → WindowLoan) {X : Type 0} {L : X → Type 0} (list_loan : TakenBox X L → ListLoan)
    (l : ListOf) (t : WindowManager V H) (m n : Lists (TakenBox X L)) (s : ListAt) (is : IsSpotOf loan list_loan l t m s)
    (f : KeptList → KeptList) (keeps : Keeps f) (edited : records_of list_loan n ≡ edit_at f s.list (records_of list_loan m)) (next : n.list.next ≡ m.list.next)
    (stays : (x : KeptList) → slice_get (records_of list_loan m) s.list ≡ Some x → IsSettledList x → IsSettledList (f x)) where
  abbrev its : IsThere (records_of list_loan m) s.list
  its = list_there loan list_loan l t m s is

  there_after : (x : KeptList) → slice_get (records_of list_loan m) s.list ≡ Some x → slice_get (records_of list_loan n) s.list ≡ Some (f x)
  there_after x there = ap (λ ls. slice_get ls s.list) edited ∙ there_edited f s.list (records_of list_loan m) x there

  lists_are : (kept : List ListSlot) → lists_state list_loan n kept ≡ record (lists_state list_loan m kept) { lists = edit_at f s.list (records_of list_loan m) }
  lists_are kept = λ i. record { lists = edited i; next = next i; stock = kept }

  pub whole_after : (ws : List WindowRecord) (kept : List ListSlot) → AreWholeLists ws (lists_state list_loan m kept) → AreWholeLists ws (lists_state list_loan n kept)
  whole_after ws kept whole = subst (AreWholeLists ws) (sym (lists_are kept)) (whole_edited f keeps s.list ws (lists_state list_loan m kept) whole stays)

  -- it stands where it stood, beside the same windows
  pub spot_of_after : IsSpotOf loan list_loan l t n s
  spot_of_after = record {
    window = is.window;
    there = is.there;
    list = ap (index_of l) edited ∙ item_index-edit_at f keeps.window keeps.serial l.window l.list s.list (records_of list_loan m) ∙ is.list;
    low = subst (λ k. s.list < k) (length-seen (kept_seen list_loan) n.list.items.items) (within (records_of list_loan n) s.list (f its.item) (there_after its.item its.there));
  }

  pub spot_after : IsSpot loan list_loan t n s
  spot_after = record { of = l; is = spot_of_after }

  pub beside_after : AreBeside list_loan loan t m → AreBeside list_loan loan t n
  beside_after beside = record { slots = beside.slots; whole = whole_after (desk_of loan t []).windows beside.slots beside.whole }

  -- and is marked so still
  pub mark_after : ((x : KeptList) → (f x).kept.drawing ≡ x.kept.drawing) → (mark : Option Pixels) → IsMark list_loan loan t m s mark → IsMark list_loan loan t n s mark
  mark_after draws None (x, there, on) = (f x, there_after x there, draws x ∙ on)
  mark_after draws (Some update) ((x, there, off), region) = (
    (f x, there_after x there, draws x ∙ off),
    λ w a y w_is a_is y_there p.
        let same : f x ≡ y = same_item (records_of list_loan n) s.list (f x) y (there_after x there) y_there in
        let serial : x.serial ≡ y.serial = sym (keeps.serial x) ∙ ap (λ (z : KeptList). z.serial) same in
        region w a x w_is a_is there p
        ∙ ap (λ k. holds a.update p || (holds a.visible p && belongs_to (part.List k) w.layers.layers (minus p w.layers.place))) serial,
  )

  pub changed_to : (u : WindowManager V H) (others : List ℕ → Part → PixelSet) (o : Opened) (slots : List WindowSlot) (cs : ControlsState) (kept : List ListSlot)
      → IsChangedTo l f (list_desk list_loan loan t others o slots cs m kept) (list_desk list_loan loan u others o slots cs n kept)
  changed_to u others o slots cs kept = record { at = s.list; found = is.list; lists = lists_are kept; beside = record { controls = refl; others = refl; activity = record { activity = refl; begun = refl } } }

  -- it was marked where its drawing is off and something of it changes
  pub marked_over : (within : Rect) (update : Pixels) (changes : Bool) → IsMark list_loan loan t m s (Some update) → ((x : KeptList) → slice_get (records_of list_loan m) s.list ≡ Some x → IsSameOrNot changes (f x) x)
      → (u : WindowManager V H) → IsShownOrMarked list_loan loan within (Some update) changes s n t u → IsChangedOver list_loan loan (IsListChanged l f) t m u n
  marked_over within update true ((x, there, off), region) agree u marked others o slots cs kept whole lists =
      let was = controls_show (lists_show others (records_of list_loan m)) cs.controls in
      let now = controls_show (lists_show others (records_of list_loan n)) cs.controls in
      let left = marked (f x) (there_after x there) was now slots whole in
      let names = found_names l.window l.list s.list (records_of list_loan m) x is.list there in
      let windows : (desk_of loan u []).windows ≡ (desk_of loan t []).windows = ap (λ (d : FullDesk). d.windows) left.1.desk in
      let its_mark : IsLayerMarked l.window (part.List l.list) (state_showing was (state_of loan t slots)) (state_showing now (state_of loan u slots)) =
      subst (λ k. IsLayerMarked k (part.List l.list) (state_showing was (state_of loan t slots)) (state_showing now (state_of loan u slots))) (keeps.window x ∙ names.0)
      (subst (λ k. IsLayerMarked (f x).window (part.List k) (state_showing was (state_of loan t slots)) (state_showing now (state_of loan u slots))) (keeps.serial x ∙ names.1) left.1) in (
        left.0,
        windows,
        subst (λ ws. AreWholeLists ws (lists_state list_loan n kept)) (sym windows) (whole_after (desk_of loan t []).windows kept lists),
        (
          x,
          list_named loan list_loan l t m s is x there,
          subst (λ b. IsSeenOrNot b l f x (list_desk list_loan loan t others o slots cs m kept) (list_desk list_loan loan u others o slots cs n kept)) (sym off)
              (inr (agree x there, record { changed = changed_to u others o slots cs kept; marked = its_mark; shows = refl })),
        ),
      )
  marked_over within update false ((x, there, off), region) agree u same others o slots cs kept whole lists =
      subst (λ v. IsWholeManager loan v slots × ((desk_of loan v []).windows ≡ (desk_of loan t []).windows) × AreWholeLists (desk_of loan v []).windows (lists_state list_loan n kept)
      × IsListChanged l f (list_desk list_loan loan t others o slots cs m kept) (list_desk list_loan loan v others o slots cs n kept)) (sym same) (
        whole,
        refl,
        whole_after (desk_of loan t []).windows kept lists,
        (
          x,
          list_named loan list_loan l t m s is x there,
          subst (λ b. IsSeenOrNot b l f x (list_desk list_loan loan t others o slots cs m kept) (list_desk list_loan loan t others o slots cs n kept)) (sym off)
              (inl (agree x there, unchanged_so loan list_loan t m n (edited ∙ edit_nothing f s.list (records_of list_loan m) agree) next others o slots cs kept)),
        ),
      )

  -- it was shown anew where the screen was right, or marked where its drawing is off and something of it changes
  pub changed_over : (within : Rect) → ((x : KeptList) → slice_get (records_of list_loan m) s.list ≡ Some x → IsSettledList x → IsSameOutside within x (f x)) → (mark : Option Pixels) (changes : Bool) → IsMark list_loan loan t m s mark → ((x : KeptList) → slice_get (records_of list_loan m) s.list ≡ Some x → IsSameOrNot changes (f x) x)
      → (u : WindowManager V H) → IsShownOrMarked list_loan loan within mark changes s n t u → IsChangedOver list_loan loan (IsWhereRight (IsListChanged l f)) t m u n
  changed_over within outside (Some update) changes mark agree u marked others o slots cs kept whole lists =
      let left = marked_over within update changes mark agree u marked others o slots cs kept whole lists in
      (left.0, left.1, left.2, λ right. left.3)
  changed_over within outside None changes (x, there, on) agree u shown others o slots cs kept whole lists =
      let was = controls_show (lists_show others (records_of list_loan m)) cs.controls in
      let now = controls_show (lists_show others (records_of list_loan n)) cs.controls in
      let left = shown (f x) (there_after x there) was now (λ p. refl) slots whole in
      let names = found_names l.window l.list s.list (records_of list_loan m) x is.list there in
      let windows : (desk_of loan u []).windows ≡ (desk_of loan t []).windows = ap (λ (d : FullDesk). d.windows) left.1.desk in
      let after = whole_after (desk_of loan t []).windows kept lists in
      let fonts : u.font ≡ t.font = ap (λ (d : FullDesk). d.font) left.1.desk in
      let same : (p : Point) → rect_holds within p ≡ false → now u.font (part.List (f x).serial) p ≡ was t.font (part.List (f x).serial) p = λ p out.
      ap (λ font. list_bit font (with_serial (f x).serial (records_of list_loan n)) p) fonts
      ∙ ap (λ y. list_bit t.font y p) (with_there (f x).serial s.list (records_of list_loan n) (f x) after.apart (there_after x there) (same_number (f x).serial))
      ∙ outside x there (All-there IsSettledList s.list (records_of list_loan m) x there lists.settled) t.font p out
      ∙ sym (ap (λ y. list_bit t.font y p) (with_there (f x).serial s.list (records_of list_loan m) x lists.apart there (ap (λ k. k == (f x).serial) (sym (keeps.serial x)) ∙ same_number (f x).serial))) in
      let redrawn : IsRightState (state_showing was (state_of loan t slots)) → IsLayerRedrawn l.window (part.List l.list) (state_showing was (state_of loan t slots)) (state_showing now (state_of loan u slots)) = λ right.
      subst (λ k. IsLayerRedrawn k (part.List l.list) (state_showing was (state_of loan t slots)) (state_showing now (state_of loan u slots))) (keeps.window x ∙ names.0)
      (subst (λ k. IsLayerRedrawn (f x).window (part.List k) (state_showing was (state_of loan t slots)) (state_showing now (state_of loan u slots))) (keeps.serial x ∙ names.1) (left.1.redrawn right same)) in (
        left.0,
        windows,
        subst (λ ws. AreWholeLists ws (lists_state list_loan n kept)) (sym windows) after,
        λ right. (
          x,
          list_named loan list_loan l t m s is x there,
          subst (λ b. IsSeenOrNot b l f x (list_desk list_loan loan t others o slots cs m kept) (list_desk list_loan loan u others o slots cs n kept)) (sym on)
              (record { changed = changed_to u others o slots cs kept; redrawn = redrawn right; shows = refl }),
        ),
      )

-- a call that asks for memory only where the drawing of the list that stands here is off may ask for it
pub grows_off : {V : Type 0} {H : V → Type 0} (loan : TakenBox V H → WindowLoan) {X : Type 0} {L : X → Type 0} (list_loan : TakenBox X L → ListLoan)
    (l : ListOf) (t : WindowManager V H) (m : Lists (TakenBox X L)) (s : ListAt) → IsSpotOf loan list_loan l t m s → IsDrawing list_loan false m s
    → (kept : List ListSlot) → is_drawing_off l (lists_state list_loan m kept) ≡ true
grows_off loan list_loan l t m s is (x, there, off) kept =
    ap (λ o. option_map_or (λ (y : KeptList). not y.kept.drawing) o false) (list_named loan list_loan l t m s is x there) ∙ ap not off

-- what a call leaves is a step of another kind as well
pub changed_as : {V : Type 0} {H : V → Type 0} (loan : TakenBox V H → WindowLoan) {X : Type 0} {L : X → Type 0} (list_loan : TakenBox X L → ListLoan)
    (t u : WindowManager V H) (m n : Lists (TakenBox X L)) (P Q : ListDesk → ListDesk → Type 0)
    → ((others : List ℕ → Part → PixelSet) (o : Opened) (slots : List WindowSlot) (cs : ControlsState) (kept : List ListSlot) → P (list_desk list_loan loan t others o slots cs m kept) (list_desk list_loan loan u others o slots cs n kept)
    → Q (list_desk list_loan loan t others o slots cs m kept) (list_desk list_loan loan u others o slots cs n kept))
    → IsChangedOver list_loan loan P t m u n → IsChangedOver list_loan loan Q t m u n
changed_as loan list_loan t u m n P Q same over others o slots cs kept whole lists = again (over others o slots cs kept whole lists)
  where
    again : IsWholeManager loan u slots × ((desk_of loan u []).windows ≡ (desk_of loan t []).windows) × AreWholeLists (desk_of loan u []).windows (lists_state list_loan n kept)
        × P (list_desk list_loan loan t others o slots cs m kept) (list_desk list_loan loan u others o slots cs n kept)
        → IsWholeManager loan u slots × ((desk_of loan u []).windows ≡ (desk_of loan t []).windows) × AreWholeLists (desk_of loan u []).windows (lists_state list_loan n kept)
        × Q (list_desk list_loan loan t others o slots cs m kept) (list_desk list_loan loan u others o slots cs n kept)
    again (a, b, c, p) = (a, b, c, same others o slots cs kept p)

-- so where the screen was right
pub right_as : {V : Type 0} {H : V → Type 0} (loan : TakenBox V H → WindowLoan) {X : Type 0} {L : X → Type 0} (list_loan : TakenBox X L → ListLoan)
    (t u : WindowManager V H) (m n : Lists (TakenBox X L)) (P Q : ListDesk → ListDesk → Type 0)
    → ((others : List ℕ → Part → PixelSet) (o : Opened) (slots : List WindowSlot) (cs : ControlsState) (kept : List ListSlot) → P (list_desk list_loan loan t others o slots cs m kept) (list_desk list_loan loan u others o slots cs n kept)
    → Q (list_desk list_loan loan t others o slots cs m kept) (list_desk list_loan loan u others o slots cs n kept))
    → IsChangedOver list_loan loan (IsWhereRight P) t m u n → IsChangedOver list_loan loan (IsWhereRight Q) t m u n
right_as loan list_loan t u m n P Q same = changed_as loan list_loan t u m n (IsWhereRight P) (IsWhereRight Q) (λ others o slots cs kept made right. same others o slots cs kept (made right))

-- what is made, also where the screen was right
pub over_right : {V : Type 0} {H : V → Type 0} (loan : TakenBox V H → WindowLoan) {X : Type 0} {L : X → Type 0} (list_loan : TakenBox X L → ListLoan)
    (t u : WindowManager V H) (m n : Lists (TakenBox X L)) (P : ListDesk → ListDesk → Type 0) → IsChangedOver list_loan loan P t m u n → IsChangedOver list_loan loan (IsWhereRight P) t m u n
over_right loan list_loan t u m n P = changed_as loan list_loan t u m n P (IsWhereRight P) (λ others o slots cs kept made right. made)
