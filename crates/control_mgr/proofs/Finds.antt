-- What is asked about controls: which one owns a pixel of the screen, and the part that a point lies in.
use Rattle.std.proofs.Common.{◌≡◌, ℕ, ◌<◌, ◌&&◌, Bool, true, false, not, if◌then◌else◌, List, [], ◌∷◌, length, map, get_or, Option, Some, None, Ok, Err, ℤ, ◌+ℤ◌, ◌-ℤ◌, refl, sym, ap, ◌∙◌, subst, arith}
use Rattle.std.specs.Prelude.{is_none, slice_get}
use Rattle.std.specs.Option.{option_and_then, option_map, option_map_or}
use Rattle.std.proofs.lemmas.Bool.{and_parts}
use Rattle.std.proofs.lemmas.Int.{ints}
use Rattle.std.proofs.lemmas.Option.{slice_get-map, slice_get-get_or}
use Rattle.tb_geom.specs.declared.point.Point.{Point}
use Rattle.tb_geom.specs.declared.refusal.Refusal.TheVariants.{NoSuchWindow, OutOfRange}
use Rattle.tb_geom.specs.Points.{PixelSet, minus, plus}
use Rattle.tb_geom.specs.Pixels.{holds}
use Rattle.tb_geom.specs.Rects.{in_plane}
use Rattle.control_values.specs.declared.part.ControlPart.{ControlPart}
use Rattle.window_items.specs.declared.item.Item.{Item}
use Rattle.control_mgr.specs.declared.control.Control.{Control}
use Rattle.window_items.specs.Items.{item_index}
use Rattle.control_mgr.specs.Seen.{all_seen, kept_seen, seen}
use Rattle.window_items.proofs.SeenLemmas.{item_index-seen}
use Rattle.desk_layers.specs.declared.part.Part.{Part}
use Rattle.desk_layers.specs.declared.part.Part.TheVariants as part
use Rattle.def_iface.specs.Slots.{TakenBox}
use Rattle.def_iface.specs.ControlMeaning.{ControlLoan}
use Rattle.desk_layers.specs.Desk.{LayeredDesk, on_screen}
use Rattle.def_iface.specs.WindowMeaning.{WindowLoan}
use Rattle.desk_layers.specs.Owner.{Owner, owner}
use Rattle.desk_layers.specs.Owner.Owner.{Desktop, Bar, Frame, Content}
use Rattle.def_iface.specs.WindowSlots.{WindowSlot}
use Rattle.desk_layers.proofs.Owning.{same_number}
use Rattle.window_list.specs.Holders.{part_at}
use Rattle.desk_call.specs.declared.control.ControlCall.TheVariants as asks
use Rattle.desk_call.specs.declared.control.ControlOf.{ControlOf}
use Rattle.desk_call.specs.declared.control.ControlReply.TheVariants as reply
use Rattle.desk_call.specs.declared.control.FoundControl.{FoundControl}
use Rattle.desk_call.specs.declared.control.PointAtControl.{PointAtControl}
use Rattle.desk_call.specs.declared.control.PointInWindow.{PointInWindow}
use Rattle.vis_update.specs.declared.area.Area.{Area}
use Rattle.vis_update.specs.Areas.{is_content_of}
use Rattle.vis_update.specs.Records.{record_of}
use Rattle.window_list.specs.declared.window.Window.{Window}
use Rattle.window_mgr.specs.declared.manager.WindowManager.{WindowManager}
use Rattle.window_mgr.specs.DeskStates.{Opened}
use Rattle.window_mgr.specs.Edits.{IsWindowAt, StandsAt}
use Rattle.window_mgr.specs.Finding.{record_with}
use Rattle.window_mgr.specs.FullDesk.{layered_desk}
use Rattle.window_mgr.specs.Kept.{IsKept}
use Rattle.window_mgr.specs.Records.{desk_of, look_on}
use Rattle.window_mgr.proofs.Covered.{layer_there}
use Rattle.window_mgr.proofs.EditSeats.{same_at, there_is}
use Rattle.window_mgr.proofs.FindLemmas.{record_at, settled_at as window_settled}
use Rattle.window_mgr.proofs.Remarked.{area_is}
use Rattle.window_mgr.proofs.Seating.{as_many}
use Rattle.window_mgr.proofs.Showing.{owner_showing}
use Rattle.control_mgr.specs.declared.controls.Controls.{Controls}
use Rattle.control_mgr.specs.declared.spots.ControlAt.{ControlAt}
use Rattle.control_mgr.specs.ControlDesks.{ControlRecord, controls_show, control_of, index_of}
use Rattle.control_mgr.specs.ControlSteps.{IsControlStep, control_found_by, found_control, found_from, found_in, tested}
use Rattle.control_mgr.specs.Judged.{part_tested}
use Rattle.control_mgr.specs.Settled.{AreSettled, IsSettledControl}
use Rattle.control_mgr.specs.Spots.{IsSpotOf}
use Rattle.control_mgr.specs.WholeControls.{LeavesControls, records_of}
use Rattle.control_mgr.proofs.Places.{record_read}
use Rattle.control_mgr.proofs.Steps.{desk_seen, first_fails, one_fails, one_holds, other_reasons, refused, told, unchanged}
use Rattle.window_items.proofs.EditLemmas.{All-there}

-- there and back again
way_back : (a b : ℤ) → (a +ℤ b) -ℤ a ≡ b
way_back a b = omega (arith, ints)

local_again : (place p : Point) → minus (plus place p) place ≡ p
local_again place p = λ i. record { h = way_back place.h p.h i; v = way_back place.v p.v i }

-- ---- by the owner of a pixel

-- what is no content of the window is no control of it
found_nowhere : (s : ℕ) (cs : List ControlRecord) (o : Owner) (p : Point) → is_content_of s o ≡ false → control_found_by s cs o p ≡ None
found_nowhere s cs Desktop p e = refl
found_nowhere s cs Bar p e = refl
found_nowhere s cs (Frame t) p e = refl
found_nowhere s cs (Content t part.Picture) p e = refl
found_nowhere s cs (Content t (part.List n)) p e = refl
found_nowhere s cs (Content t (part.Text n)) p e = refl
found_nowhere s cs (Content t (part.Control n)) p e =
    ap (λ b. if b then option_and_then (λ c. found_in c p) (control_of (record { window = s; control = n }) cs) else None) e

-- a control of the window, where this is found of its number
found_own : (s n : ℕ) (cs : List ControlRecord) (p : Point) → control_found_by s cs (Content s (part.Control n)) p ≡ option_and_then (λ c. found_in c p) (control_of (record { window = s; control = n }) cs)
found_own s n cs p =
    ap (λ b. if b then option_and_then (λ c. found_in c p) (control_of (record { window = s; control = n }) cs) else None) (same_number s)

no_control_there : (s : ℕ) (cs : List ControlRecord) (o : Part) (p : Point) → ((n : ℕ) → o ≡ part.Control n → ⊥) → control_found_by s cs (Content s o) p ≡ None
no_control_there s cs part.Picture p none = refl
no_control_there s cs (part.List n) p none = refl
no_control_there s cs (part.Text n) p none = refl
no_control_there s cs (part.Control n) p none = absurd (none n refl)

-- the control of this number stands here, or nowhere
control_here : (c : ControlOf) (cs : List ControlRecord) (at : ℕ) (x : ControlRecord) → index_of c cs ≡ Some at → slice_get cs at ≡ Some x → control_of c cs ≡ Some x
control_here c cs at x found there = ap (option_and_then (slice_get cs)) found ∙ there

control_nowhere : (c : ControlOf) (cs : List ControlRecord) → index_of c cs ≡ None → control_of c cs ≡ None
control_nowhere c cs none = ap (option_and_then (slice_get cs)) none

module _ {W : Type 0} {K : W → Type 0} (control_loan : TakenBox W K → ControlLoan) where
  -- the control at a place is settled
  pub settled_at : (xs : List (Item (Control (TakenBox W K)))) (at : ℕ) (x : Item (Control (TakenBox W K))) → at < length xs → x ≡ get_or xs at x
      → AreSettled (all_seen control_loan xs) → IsSettledControl (seen control_loan x)
  settled_at xs at x low read settled = All-there IsSettledControl at (all_seen control_loan xs) (seen control_loan x) (record_read control_loan xs at x low read) settled

  module _ {V : Type 0} {H : V → Type 0} (loan : TakenBox V H → WindowLoan) (t : WindowManager V H) (kept : IsKept loan t) (m : Controls (TakenBox W K))
      (at : ℕ) (low : at < length t.windows.records.items) (p : Point) (w : Window V H) (there : IsWindowAt t.windows.records.items at w) where
    abbrev cs : List ControlRecord
    cs = records_of control_loan m

    abbrev desk : LayeredDesk
    desk = layered_desk (desk_of loan t [])

    -- the pixel of the screen at the point
    abbrev pixel : Point
    pixel = plus w.place p

    abbrev found : Option FoundControl
    found = found_from (desk_of loan t []) cs w.serial w.place p

    -- its window's place is a point, and its area is there
    pub window_placed : in_plane w.place ≡ true
    window_placed = (window_settled loan t kept p at w low there).placed

    pub area_low : at < length t.areas.items
    area_low = let long = as_many loan t kept in omega arith

    area_there : (a : Area) → a ≡ get_or t.areas.items at a → holds a.visible pixel ≡ (on_screen desk pixel && is_content_of w.serial (owner desk pixel))
    area_there a read = (area_is loan t kept.slots kept.whole at low w there a read).visible pixel

    -- where the content of the window has not the pixel, nothing is found
    pub nothing_found : (a : Area) → a ≡ get_or t.areas.items at a → holds a.visible pixel ≡ false → None ≡ found
    nothing_found a read unseen = by_test (on_screen desk pixel) (sym (area_there a read) ∙ unseen)
      where
        by_test : (on : Bool) → (on && is_content_of w.serial (owner desk pixel)) ≡ false → None ≡ (if on then control_found_by w.serial cs (owner desk pixel) p else None)
        by_test true e = sym (found_nowhere w.serial cs (owner desk pixel) p e)
        by_test false e = refl

    -- where it has, that is found of the layer there
    found_there : (a : Area) → a ≡ get_or t.areas.items at a → holds a.visible pixel ≡ true → found ≡ control_found_by w.serial cs (Content w.serial (part_at w.layers.layers p)) p
    found_there a read shown =
        let both = and_parts (on_screen desk pixel) (is_content_of w.serial (owner desk pixel)) (sym (area_there a read) ∙ shown) in
        let its : slice_get (map (record_of loan) t.windows.records.items) at ≡ Some (record_of loan w) =
        slice_get-map (record_of loan) t.windows.records.items at ∙ ap (option_map (record_of loan)) (slice_get-get_or t.windows.records.items at w low ∙ ap Some (sym there)) in
        let distinct = kept.whole.sound.distinct in
        ap (λ b. if b then control_found_by w.serial cs (owner desk pixel) p else None) both.0
        ∙ ap (λ o. control_found_by w.serial cs o p)
        (layer_there (desk_of loan t []) (record_of loan w) pixel distinct (record_at (look_on t) (map (record_of loan) t.windows.records.items) at (record_of loan w) distinct its) both.1)
        ∙ ap (λ q. control_found_by w.serial cs (Content w.serial (part_at w.layers.layers q)) p) (local_again w.place p)

    pub no_control_found : (a : Area) → a ≡ get_or t.areas.items at a → holds a.visible pixel ≡ true → ((n : ℕ) → part_at w.layers.layers p ≡ part.Control n → ⊥) → None ≡ found
    no_control_found a read shown none = sym (found_there a read shown ∙ no_control_there w.serial cs (part_at w.layers.layers p) p none)

    its_control : (a : Area) (n : ℕ) → a ≡ get_or t.areas.items at a → holds a.visible pixel ≡ true → part_at w.layers.layers p ≡ part.Control n
        → found ≡ option_and_then (λ c. found_in c p) (control_of (record { window = w.serial; control = n }) cs)
    its_control a n read shown is = found_there a read shown ∙ ap (λ o. control_found_by w.serial cs (Content w.serial o) p) is ∙ found_own w.serial n cs p

    index_seen : (n : ℕ) (o : Option ℕ) → o ≡ item_index w.serial n m.list.items.items → index_of (record { window = w.serial; control = n }) cs ≡ o
    index_seen n o is = item_index-seen (kept_seen control_loan) w.serial n m.list.items.items ∙ sym is

    pub missing_control : (a : Area) (n : ℕ) → a ≡ get_or t.areas.items at a → holds a.visible pixel ≡ true → part_at w.layers.layers p ≡ part.Control n
        → None ≡ item_index w.serial n m.list.items.items → None ≡ found
    missing_control a n read shown is none =
        sym (its_control a n read shown is ∙ ap (option_and_then (λ c. found_in c p)) (control_nowhere (record { window = w.serial; control = n }) cs (index_seen n None none)))

    pub control_found : (a : Area) (n i : ℕ) (x : Item (Control (TakenBox W K))) → a ≡ get_or t.areas.items at a → holds a.visible pixel ≡ true → part_at w.layers.layers p ≡ part.Control n
        → Some i ≡ item_index w.serial n m.list.items.items → i < length m.list.items.items → x ≡ get_or m.list.items.items i x
        → (answer : Option FoundControl) → answer ≡ found_in (seen control_loan x) p → answer ≡ found
    control_found a n i x read shown is index within x_is answer answers =
        answers
        ∙ sym (its_control a n read shown is
        ∙ ap (option_and_then (λ c. found_in c p))
        (control_here (record { window = w.serial; control = n }) cs i (seen control_loan x) (index_seen n (Some i) index) (record_read control_loan m.list.items.items i x within x_is)))

-- ---- steps

module _ {V : Type 0} {H : V → Type 0} (loan : TakenBox V H → WindowLoan) {W : Type 0} {K : W → Type 0} (control_loan : TakenBox W K → ControlLoan)
    (t : WindowManager V H) (m : Controls (TakenBox W K)) where
  -- a point that is none of the range, where nothing is missing
  pub test_refused : (asked : PointAtControl) (s : ControlAt) (o : Opened) → IsSpotOf loan control_loan asked.control t m s → in_plane asked.point ≡ false
      → LeavesControls control_loan loan (IsControlStep (asks.Test asked) (Err OutOfRange)) t o m t o m
  test_refused asked s o is out =
      refused loan control_loan (asks.Test asked) OutOfRange t o m
      (λ others slots kept. other_reasons loan control_loan asked.control t m s is ((not (in_plane asked.point), OutOfRange) ∷ []) ∙ one_holds (not (in_plane asked.point)) OutOfRange (ap not out))

  -- the part of a control that the point lies in
  pub test_told : (asked : PointAtControl) (s : ControlAt) (o : Opened) (x : Item (Control (TakenBox W K))) (answer : Option ControlPart) → IsSpotOf loan control_loan asked.control t m s
      → x ≡ get_or m.list.items.items s.control x → in_plane asked.point ≡ true → answer ≡ part_tested (seen control_loan x) asked.point
      → LeavesControls control_loan loan (IsControlStep (asks.Test asked) (Ok (reply.Part answer))) t o m t o m
  test_told asked s o x answer is read within answers =
      told loan control_loan (asks.Test asked) (reply.Part answer) t o m
      (λ others slots kept. other_reasons loan control_loan asked.control t m s is ((not (in_plane asked.point), OutOfRange) ∷ []) ∙ one_fails (not (in_plane asked.point)) OutOfRange (ap not within))
      (λ others slots kept. (ap reply.Part (answers ∙ sym here), unchanged loan control_loan others t o slots m kept))
    where
      here : tested asked.control (records_of control_loan m) asked.point ≡ part_tested (seen control_loan x) asked.point
      here = ap (option_and_then (λ d. part_tested d asked.point))
          (control_here asked.control (records_of control_loan m) s.control (seen control_loan x) is.control (record_read control_loan m.list.items.items s.control x is.low read))

  module _ (kept : IsKept loan t) (asked : PointInWindow) (at : ℕ) (stands : StandsAt t.windows.records.items asked.window at) where
    window : (w : Window V H) × IsWindowAt t.windows.records.items at w
    window = there_is t.windows.records.items at stands.0

    its_record : record_with asked.window (map (record_of loan) t.windows.records.items) ≡ Some (record_of loan window.0)
    its_record =
        let w = window.0 in
        let its : slice_get (map (record_of loan) t.windows.records.items) at ≡ Some (record_of loan w) =
        slice_get-map (record_of loan) t.windows.records.items at ∙ ap (option_map (record_of loan)) (slice_get-get_or t.windows.records.items at w stands.0 ∙ ap Some (sym window.1)) in
        ap (λ n. record_with n (map (record_of loan) t.windows.records.items)) (sym (stands.1 w window.1))
        ∙ record_at (look_on t) (map (record_of loan) t.windows.records.items) at (record_of loan w) kept.whole.sound.distinct its

    pub find_refused : (o : Opened) → in_plane asked.point ≡ false → LeavesControls control_loan loan (IsControlStep (asks.Find asked) (Err OutOfRange)) t o m t o m
    find_refused o out =
        refused loan control_loan (asks.Find asked) OutOfRange t o m
        (λ others slots left. first_fails (is_none (record_with asked.window (map (record_of loan) t.windows.records.items))) NoSuchWindow ((not (in_plane asked.point), OutOfRange) ∷ []) (ap is_none its_record)
        ∙ one_holds (not (in_plane asked.point)) OutOfRange (ap not out))

    -- what is found does not depend on what controls show
    pub find_told : (o : Opened) (answer : Option FoundControl) → in_plane asked.point ≡ true
        → ((w : Window V H) → IsWindowAt t.windows.records.items at w → answer ≡ found_from (desk_of loan t []) (records_of control_loan m) w.serial w.place asked.point)
        → LeavesControls control_loan loan (IsControlStep (asks.Find asked) (Ok (reply.Found answer))) t o m t o m
    find_told o answer within found =
        told loan control_loan (asks.Find asked) (reply.Found answer) t o m
        (λ others slots left. first_fails (is_none (record_with asked.window (map (record_of loan) t.windows.records.items))) NoSuchWindow ((not (in_plane asked.point), OutOfRange) ∷ []) (ap is_none its_record)
        ∙ one_fails (not (in_plane asked.point)) OutOfRange (ap not within))
        (λ others slots left. (ap reply.Found (found window.0 window.1 ∙ sym (here others slots)), unchanged loan control_loan others t o slots m left))
      where
        cs : List ControlRecord
        cs = records_of control_loan m

        w : Window V H
        w = window.0

        here : (others : List ℕ → Part → PixelSet) (slots : List WindowSlot) → found_control (desk_seen loan control_loan others t slots m) cs asked.window asked.point ≡ found_from (desk_of loan t []) cs w.serial w.place asked.point
        here others slots =
            ap (λ r. option_map_or (λ v. found_from (desk_seen loan control_loan others t slots m) cs asked.window v.place asked.point) r None) its_record
            ∙ ap (λ n. found_from (desk_seen loan control_loan others t slots m) cs n w.place asked.point) (sym (stands.1 w window.1))
            ∙ ap (λ x. if on_screen (layered_desk (desk_of loan t [])) (plus w.place asked.point) then control_found_by w.serial cs x asked.point else None)
            (owner_showing (controls_show others cs) (desk_of loan t slots) (plus w.place asked.point))

-- what holds of the window that the code reads holds of the one at its place
pub of_window : {V : Type 0} {H : V → Type 0} (ws : List (Window V H)) (at : ℕ) (x : Window V H) → at < length ws → IsWindowAt ws at x
    → (P : Window V H → Type 0) → P x → (w : Window V H) → IsWindowAt ws at w → P w
of_window ws at x low read P its w there = subst P (same_at ws at x w low read there) its
