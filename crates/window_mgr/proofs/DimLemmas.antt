-- Windows of which one may have lost its highlighting.
use Rattle.std.proofs.Common.{◌≡◌, ℕ, ◌==◌, Bool, true, false, if◌then◌else◌, List, [], ◌∷◌, map, Option, None, Some, refl}
use Rattle.std.specs.Prelude.{All}
use Rattle.def_iface.specs.Slots.{TakenBox}
use Rattle.def_iface.specs.WindowMeaning.{WindowLoan}
use Rattle.def_iface.specs.WindowSlots.{WindowSlot}
use Rattle.window_list.specs.declared.window.Window.{Window}
use Rattle.vis_update.specs.Records.{WindowRecord, record_of}
use Rattle.vis_update.specs.Touches.{is_this}
use Rattle.window_mgr.specs.Arrange.{with_highlighting}
use Rattle.window_list.specs.Lists.{dimmed}
use Rattle.window_mgr.specs.Whole.{IsSettled, IsStocked}
use Rattle.window_mgr.proofs.EachChanged.{settled_map, stocked_map}

-- a window that may have got or lost its highlighting
pub either : (on : Bool) (s : Option ℕ) (P : WindowRecord → Type 0) (w : WindowRecord) → P w → P (record w { highlighted = on }) → P (with_highlighting on s w)
either on s P w h changed = by_test (is_this s w.serial)
  where
    by_test : (b : Bool) → P (if b then record w { highlighted = on } else w)
    by_test true = changed
    by_test false = h

-- ---- all windows, where those behind a visible one may lose their highlighting

module _ (active : Option ℕ) where
  same_slot : (w : WindowRecord) → (with_highlighting false active w).slot ≡ w.slot
  same_slot w = either false active (λ v. v.slot ≡ w.slot) w refl refl

  abbrev pub windows_behind : Bool → List WindowRecord → List WindowRecord
  windows_behind b ws = if b then map (with_highlighting false active) ws else ws

  pub settled_behind : (b : Bool) (ws : List WindowRecord) → All IsSettled ws → All IsSettled (windows_behind b ws)
  settled_behind true ws h = settled_map (with_highlighting false active) (λ w its. either false active IsSettled w its (record { origin = its.origin; placed = its.placed; live = its.live; told = its.told; fits = its.fits; inside = its.inside; within = its.within; layers = its.layers; goes_by = its.goes_by })) ws h
  settled_behind false ws h = h

  pub stocked_behind : (b : Bool) (ws : List WindowRecord) (slots : List WindowSlot) → IsStocked ws slots → IsStocked (windows_behind b ws) slots
  stocked_behind true ws slots h = stocked_map (with_highlighting false active) same_slot ws slots h
  stocked_behind false ws slots h = h

-- ---- the records of the code

module _ {V : Type 0} {H : V → Type 0} (loan : TakenBox V H → WindowLoan) (active : Option ℕ) where
  pub dimmed_record : (w : Window V H) → record_of loan (dimmed active w) ≡ with_highlighting false active (record_of loan w)
  dimmed_record w = by_active active
    where
      by_test : (b : Bool) → record_of loan (if b then record w { highlighted = false } else w) ≡ (if b then record (record_of loan w) { highlighted = false } else record_of loan w)
      by_test true = refl
      by_test false = refl

      by_active : (a : Option ℕ) → record_of loan (dimmed a w) ≡ with_highlighting false a (record_of loan w)
      by_active None = refl
      by_active (Some s) = by_test (w.serial == s)

  dimmed_records : (ws : List (Window V H)) → map (record_of loan) (map (dimmed active) ws) ≡ map (with_highlighting false active) (map (record_of loan) ws)
  dimmed_records [] = refl
  dimmed_records (w ∷ ws) = λ i. dimmed_record w i ∷ dimmed_records ws i

  -- the records of the windows behind
  pub records_behind : (b : Bool) (ws : List (Window V H)) → map (record_of loan) (if b then map (dimmed active) ws else ws) ≡ windows_behind active b (map (record_of loan) ws)
  records_behind true ws = dimmed_records ws
  records_behind false ws = refl
