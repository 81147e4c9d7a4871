-- A list whose drawing was turned on or off: it shows what it showed.
use Rattle.std.proofs.Common.{◌≡◌, ℕ, zero, suc, ◌+◌, Bool, not, cond, List, [], ◌∷◌, position, Option, Some, None, Ok, refl, ap, ◌∙◌}
use Rattle.std.specs.Prelude.{slice_get}
use Rattle.std.specs.List.{position_or_len}
use Rattle.std.specs.Option.{option_and_then}
use Rattle.tb_geom.specs.declared.point.Point.{Point}
use Rattle.desk_layers.specs.declared.part.Part.{Part}
use Rattle.desk_layers.specs.declared.part.Part.TheVariants as part
use Rattle.def_iface.specs.Slots.{TakenBox}
use Rattle.def_iface.specs.ListMeaning.{ListLoan}
use Rattle.def_iface.specs.WindowMeaning.{WindowLoan}
use Rattle.window_items.specs.Items.{edit_at, has_serial}
use Rattle.list_mgr.specs.Fields.{with_drawing}
use Rattle.window_items.proofs.ListLemmas.{length-edit_at}
use Rattle.desk_call.specs.declared.list.ListCall.TheVariants as asks
use Rattle.desk_call.specs.declared.list.ListDrawing.{ListDrawing}
use Rattle.desk_call.specs.declared.list.ListReply.TheVariants as reply
use Rattle.window_mgr.specs.declared.manager.WindowManager.{WindowManager}
use Rattle.window_mgr.specs.Records.{desk_of}
use Rattle.control_mgr.specs.ControlDesks.{ControlRecord, controls_show}
use Rattle.list_mgr.specs.declared.lists.Lists.{Lists}
use Rattle.list_mgr.specs.declared.spots.ListAt.{ListAt}
use Rattle.list_mgr.specs.ListDesks.{KeptList, list_bit, lists_show}
use Rattle.list_mgr.specs.ListSteps.{IsListStep}
use Rattle.list_mgr.specs.Spots.{IsSpotOf}
use Rattle.list_mgr.specs.WholeLists.{IsChangedOver, IsSettledList, records_of}
use Rattle.list_mgr.proofs.Changed.{changed_to, whole_after}
use Rattle.list_mgr.proofs.Edited.{Keeps}
use Rattle.list_mgr.proofs.Steps.{nothing_missing}
use Rattle.tb_geom.specs.Points.{PixelSet}

module _ (b : Bool) where
  len_edit : (n i : ℕ) (xs : List KeptList) → position_or_len (has_serial n) (edit_at (with_drawing b) i xs) ≡ position_or_len (has_serial n) xs
  len_edit n i [] = refl
  len_edit n zero (x ∷ xs) = refl
  len_edit n (suc i) (x ∷ xs) = ap (λ k. cond (not (has_serial n x)) (1 + k) 0) (len_edit n i xs)

  place_edit : (n i : ℕ) (xs : List KeptList) → position (has_serial n) (edit_at (with_drawing b) i xs) ≡ position (has_serial n) xs
  place_edit n i xs = rw (len_edit n i xs, length-edit_at (with_drawing b) i xs) refl

  bit_edit : (font : List ℕ) (i : ℕ) (xs : List KeptList) (j : ℕ) (p : Point) → list_bit font (slice_get (edit_at (with_drawing b) i xs) j) p ≡ list_bit font (slice_get xs j) p
  bit_edit font i [] j p = refl
  bit_edit font zero (x ∷ xs) zero p = refl
  bit_edit font zero (x ∷ xs) (suc j) p = refl
  bit_edit font (suc i) (x ∷ xs) zero p = refl
  bit_edit font (suc i) (x ∷ xs) (suc j) p = bit_edit font i xs j p

  at_place : (font : List ℕ) (i : ℕ) (xs : List KeptList) (o : Option ℕ) (p : Point)
      → list_bit font (option_and_then (slice_get (edit_at (with_drawing b) i xs)) o) p ≡ list_bit font (option_and_then (slice_get xs) o) p
  at_place font i xs None p = refl
  at_place font i xs (Some j) p = bit_edit font i xs j p

  -- lists show what they showed
  pub shows_edit : (others : List ℕ → Part → PixelSet) (i : ℕ) (xs : List KeptList) (font : List ℕ) (q : Part) (p : Point) → lists_show others (edit_at (with_drawing b) i xs) font q p ≡ lists_show others xs font q p
  shows_edit others i xs font part.Picture p = refl
  shows_edit others i xs font (part.Control n) p = refl
  shows_edit others i xs font (part.Text n) p = refl
  shows_edit others i xs font (part.List n) p =
      ap (λ o. list_bit font (option_and_then (slice_get (edit_at (with_drawing b) i xs)) o) p) (place_edit n i xs) ∙ at_place font i xs (position (has_serial n) xs) p

  drawing_keeps : Keeps (with_drawing b)
  drawing_keeps = record { serial = λ x. refl; window = λ x. refl; definition = λ x. refl; layer = λ x k is. record { part = is.part; shown = is.shown; region = is.region; bounds = is.bounds } }

  drawing_stays : (x : KeptList) → IsSettledList x → IsSettledList (with_drawing b x)
  drawing_stays x settled = record { live = settled.live; told = settled.told; goes_by = settled.goes_by; view = settled.view; grid = settled.grid; short = settled.short; scrolled = settled.scrolled; single = settled.single }

-- and so do controls and lists together
both_show : (others : List ℕ → Part → PixelSet) (cs : List ControlRecord) (xs ys : List KeptList) (font : List ℕ) → ((q : Part) (p : Point) → lists_show others ys font q p ≡ lists_show others xs font q p)
    → (q : Part) (p : Point) → controls_show (lists_show others ys) cs font q p ≡ controls_show (lists_show others xs) cs font q p
both_show others cs xs ys font same part.Picture p = same part.Picture p
both_show others cs xs ys font same (part.Control n) p = refl
both_show others cs xs ys font same (part.List n) p = same (part.List n) p
both_show others cs xs ys font same (part.Text n) p = same (part.Text n) p

module _ {V : Type 0} {H : V → Type 0} (loan : TakenBox V H → WindowLoan) {X : Type 0} {L : X → Type 0} (list_loan : TakenBox X L → ListLoan)
    (t : WindowManager V H) (m n : Lists (TakenBox X L)) (d : ListDrawing) (s : ListAt) (is : IsSpotOf loan list_loan d.list t m s)
    (edited : records_of list_loan n ≡ edit_at (with_drawing d.drawing) s.list (records_of list_loan m)) (next : n.list.next ≡ m.list.next) where
  shows : (others : List ℕ → Part → PixelSet) (cs : List ControlRecord) (q : Part) (p : Point) → controls_show (lists_show others (records_of list_loan n)) cs t.font q p ≡ controls_show (lists_show others (records_of list_loan m)) cs t.font q p
  shows others cs q p =
      both_show others cs (records_of list_loan m) (records_of list_loan n) t.font
      (λ q p. ap (λ ls. lists_show others ls t.font q p) edited ∙ shows_edit d.drawing others s.list (records_of list_loan m) t.font q p) q p

  stays : (x : KeptList) → slice_get (records_of list_loan m) s.list ≡ Some x → IsSettledList x → IsSettledList (with_drawing d.drawing x)
  stays x there = drawing_stays d.drawing x

  pub drawing_set : IsChangedOver list_loan loan (IsListStep (asks.SetDrawing d) (Ok reply.Done)) t m t n
  drawing_set others o slots cs kept whole lists =
      let keeps = drawing_keeps d.drawing in (
        whole,
        refl,
        whole_after loan list_loan d.list t m n s is (with_drawing d.drawing) keeps edited next stays (desk_of loan t []).windows kept lists,
        (
          nothing_missing loan list_loan d.list t m s is,
          (
            refl,
            changed_to loan list_loan d.list t m n s is (with_drawing d.drawing) keeps edited next stays t others o slots cs kept,
            record {
              windows = record { desk = λ i. record (desk_of loan t slots) { shows = λ q p. shows others cs.controls q p i }; stale = λ p on. refl; image = λ p on. refl };
              activity = refl;
              begun = refl;
            },
          ),
        ),
      )
