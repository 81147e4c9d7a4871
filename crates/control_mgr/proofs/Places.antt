-- Where a control stands: its record, its window, and its layer there.
use Rattle.std.proofs.Common.{◌≡◌, ℕ, zero, suc, ◌<◌, true, false, ◌==◌, List, [], ◌∷◌, length, get_or, Option, Some, refl, sym, ap, ◌∙◌, subst, arith, eqb-true}
use Rattle.std.specs.Prelude.{All, IfSome, map, slice_get}
use Rattle.std.specs.Option.{option_map, option_map_or}
use Rattle.std.proofs.lemmas.Bool.{and_parts}
use Rattle.std.proofs.lemmas.List.Elements.{All-head, All-tail}
use Rattle.window_items.specs.Items.{item_index, items_of, is_item, is_in_at, place_among}
use Rattle.window_items.specs.declared.item.Item.{Item}
use Rattle.control_mgr.specs.declared.control.Control.{Control}
use Rattle.control_mgr.specs.Seen.{all_seen, kept_seen, seen}
use Rattle.window_items.proofs.SeenLemmas.{length-seen, slice_get-seen}
use Rattle.window_items.proofs.WindowLemmas.{found_in, position_there, slice_get-items_of}
use Rattle.def_iface.specs.Slots.{TakenBox}
use Rattle.def_iface.specs.ControlMeaning.{ControlLoan}
use Rattle.def_iface.specs.WindowMeaning.{WindowLoan}
use Rattle.def_iface.specs.WindowSlots.{WindowSlot}
use Rattle.window_list.specs.declared.layer.Layer.{Layer}
use Rattle.desk_call.specs.declared.control.ControlOf.{ControlOf}
use Rattle.vis_update.specs.Records.{WindowRecord, record_of}
use Rattle.window_list.specs.declared.window.Window.{Window}
use Rattle.window_mgr.specs.declared.manager.WindowManager.{WindowManager}
use Rattle.window_mgr.specs.Edits.{IsWindowAt}
use Rattle.window_mgr.specs.Finding.{record_with}
use Rattle.window_mgr.specs.Records.{desk_of}
use Rattle.window_mgr.specs.Whole.{IsWholeManager}
use Rattle.window_mgr.proofs.Steps.{found}
use Rattle.control_mgr.specs.declared.controls.Controls.{Controls}
use Rattle.control_mgr.specs.declared.spots.ControlAt.{ControlAt}
use Rattle.control_mgr.specs.ControlDesks.{ControlRecord}
use Rattle.control_mgr.specs.ControlSteps.{AreLayersOf, IsLayerOf}
use Rattle.control_mgr.specs.Spots.{IsSpotOf}
use Rattle.control_mgr.specs.WholeControls.{records_of}
use Rattle.control_mgr.proofs.Edited.{AreNoControls, begin_there}
use Rattle.control_mgr.proofs.Settled.{AreJoined}

-- ---- places in lists

pub record IsThere {X : Type 0} (xs : List X) (i : ℕ) : Type 0 where
  pub item : X
  pub there : slice_get xs i ≡ Some item

pub there_is : {X : Type 0} (xs : List X) (i : ℕ) → i < length xs → IsThere xs i
there_is [] i low = absurd (omega arith)
there_is (x ∷ xs) zero low = record { item = x; there = refl }
there_is (x ∷ xs) (suc i) low = let rest = there_is xs i (omega arith) in record { item = rest.item; there = rest.there }

pub read_is : {X : Type 0} (xs : List X) (i : ℕ) (x : X) → slice_get xs i ≡ Some x → x ≡ get_or xs i x
read_is [] i x e = absurd (cc)
read_is (y ∷ ys) zero x e = let same : y ≡ x = cc in sym same
read_is (y ∷ ys) (suc i) x e = read_is ys i x e

pub within : {X : Type 0} (xs : List X) (i : ℕ) (x : X) → slice_get xs i ≡ Some x → i < length xs
within [] i x e = absurd (cc)
within (y ∷ ys) zero x e = omega arith
within (y ∷ ys) (suc i) x e = let h = within ys i x e in omega arith

pub get_is : {X : Type 0} (xs : List X) (i : ℕ) (x : X) → i < length xs → x ≡ get_or xs i x → slice_get xs i ≡ Some x
get_is [] i x low e = absurd (omega arith)
get_is (y ∷ ys) zero x low e = ap Some (sym e)
get_is (y ∷ ys) (suc i) x low e = get_is ys i x (omega arith) e

-- ---- windows

module _ {V : Type 0} {H : V → Type 0} (loan : TakenBox V H → WindowLoan) where
  -- what holds of each window's record holds of that of the window at a place
  pub at_window : (P : WindowRecord → Type 0) (ws : List (Window V H)) (i : ℕ) (w : Window V H) → i < length ws → IsWindowAt ws i w → All P (map (record_of loan) ws) → P (record_of loan w)
  at_window P [] i w low e h = absurd (omega arith)
  at_window P (v ∷ vs) zero w low e h = subst (λ x. P (record_of loan x)) (sym e) (All-head P (record_of loan v) (map (record_of loan) vs) h)
  at_window P (v ∷ vs) (suc i) w low e h = at_window P vs i w (omega arith) e (All-tail P (record_of loan v) (map (record_of loan) vs) h)

  -- and what holds of the layers of the window at a place holds of those of the window that has its serial
  pub layers_named : (t : WindowManager V H) (slots : List WindowSlot) → IsWholeManager loan t slots → (at serial : ℕ) (w : Window V H) → at < length t.windows.records.items
      → IsWindowAt t.windows.records.items at w → w.serial ≡ serial → (P : List Layer → Type 0) → P w.layers.layers
      → (r : WindowRecord) → record_with serial (desk_of loan t slots).windows ≡ Some r → P r.layers
  layers_named t slots whole at serial w low lies named P h r is =
      let both : Some (record_of loan w) ≡ Some r = sym (found loan t t slots whole at serial w low lies named) ∙ is in
      let same : record_of loan w ≡ r = cc in
      subst (λ (x : WindowRecord). P x.layers) same h

-- ---- a control that was found

named : (window serial : ℕ) (o : Option ControlRecord) (c : ControlRecord) → o ≡ Some c → option_map_or (is_item window serial) o false ≡ true → (c.window ≡ window) × (c.serial ≡ serial)
named window serial o c e h =
    let both = and_parts (c.window == window) (c.serial == serial) (sym (ap (λ x. option_map_or (is_item window serial) x false) e) ∙ h) in
    (eqb-true c.window window both.0, eqb-true c.serial serial both.1)

pub found_names : (window serial at : ℕ) (cs : List ControlRecord) (c : ControlRecord) → item_index window serial cs ≡ Some at → slice_get cs at ≡ Some c → (c.window ≡ window) × (c.serial ≡ serial)
found_names window serial at cs c found there =
    named window serial (slice_get cs at) c there
    (subst (λ o. IfSome o (λ i. option_map_or (is_item window serial) (slice_get cs i) false ≡ true)) found (position_there (is_item window serial) cs))

-- ---- a control as the code reads it

module _ {W : Type 0} {K : W → Type 0} (control_loan : TakenBox W K → ControlLoan) where
  pub record_read : (xs : List (Item (Control (TakenBox W K)))) (at : ℕ) (x : Item (Control (TakenBox W K))) → at < length xs → x ≡ get_or xs at x → slice_get (all_seen control_loan xs) at ≡ Some (seen control_loan x)
  record_read xs at x low e = slice_get-seen (kept_seen control_loan) xs at ∙ ap (λ o. option_map (seen control_loan) o) (get_is xs at x low e)

-- what is known of a control that stands here
module _ {V : Type 0} {H : V → Type 0} (loan : TakenBox V H → WindowLoan) {W : Type 0} {K : W → Type 0} (control_loan : TakenBox W K → ControlLoan)
    (c : ControlOf) (t : WindowManager V H) (m : Controls (TakenBox W K)) (s : ControlAt) (is : IsSpotOf loan control_loan c t m s) where
  abbrev cs : List ControlRecord
  cs = records_of control_loan m

  pub record_there : IsThere cs s.control
  record_there = there_is cs s.control (subst (λ n. s.control < n) (sym (length-seen (kept_seen control_loan) m.list.items.items)) is.low)

  pub in_its_window : is_in_at c.window s.control cs ≡ true
  in_its_window = found_in c.window c.control s.control cs is.control

  pub names : (record_there.item.window ≡ c.window) × (record_there.item.serial ≡ c.control)
  names = found_names c.window c.control s.control cs record_there.item is.control record_there.there

  -- its layer
  pub record ItsLayer (w : Window V H) : Type 0 where
    pub layer : Layer
    pub there : slice_get w.layers.layers (place_among s.control cs) ≡ Some layer
    pub is_layer : IsLayerOf record_there.item layer

  pub layer_there : (w : Window V H) → IsWindowAt t.windows.records.items s.window w → AreJoined cs (desk_of loan t []).windows → ItsLayer w
  layer_there w lies joined =
      let its : AreLayersOf (items_of w.serial cs) w.layers.layers = at_window loan (λ r. AreLayersOf (items_of r.serial cs) r.layers) t.windows.records.items s.window w is.window.0 lies joined in
      let here : is_in_at w.serial s.control cs ≡ true = ap (λ n. is_in_at n s.control cs) (is.window.1 w lies) ∙ in_its_window in
      let found = begin_there IsLayerOf AreNoControls (place_among s.control cs) (items_of w.serial cs) w.layers.layers record_there.item its (slice_get-items_of w.serial s.control cs here ∙ record_there.there) in
      record { layer = found.0; there = found.1; is_layer = found.2 }
