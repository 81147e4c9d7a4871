-- Lists, drawn: what a list shows on a canvas of its window.
use Rattle.std.proofs.Common.{◌≡◌, ℕ, ◌+◌, ◌<◌, ◌≤◌, ◌&&◌, Bool, true, false, not, cond, List, [], ◌∷◌, length, position, get_or, ℤ, pos, Some, None, refl, sym, ap, ◌∙◌, arith}
use Rattle.std.specs.Prelude.{All, int_le, slice_get, ◌≤ℤ◌}
use Rattle.std.specs.List.{position_or_len}
use Rattle.std.specs.Option.{option_and_then, option_map}
use Rattle.std.proofs.lemmas.Int.{ints}
use Rattle.std.proofs.lemmas.List.Elements.{All-from_get_or}
use Rattle.std.proofs.lemmas.List.Sums.{get_or-le-sum_by}
use Rattle.tb_geom.specs.declared.point.Point.{Point}
use Rattle.list_cells.specs.Contents.{Content, bytes_held, empty_content}
use Rattle.window_items.specs.declared.item.Item.{Item}
use Rattle.list_mgr.specs.declared.list_record.ListRecord.{ListRecord}
use Rattle.window_items.specs.Items.{has_serial}
use Rattle.list_mgr.specs.Seen.{all_seen, seen, kept_seen}
use Rattle.window_items.proofs.SeenLemmas.{length-seen, slice_get-seen}
use Rattle.desk_layers.specs.declared.part.Part.{Part}
use Rattle.desk_layers.specs.declared.part.Part.TheVariants as part
use Rattle.def_iface.specs.ControlMeaning.{is_control_extent, is_control_size}
use Rattle.def_iface.specs.ListMeaning.{ListLoan}
use Rattle.window_paint.specs.White.{all_white}
use Rattle.control_mgr.proofs.Places.{get_is}
use Rattle.list_mgr.specs.ListDesks.{KeptList, list_bit, lists_show}
use Rattle.list_mgr.specs.WholeLists.{AreSettled, IsSettledList}
use Rattle.window_items.proofs.EditLemmas.{All-there}

-- ---- what is told of a settled list

-- cells that hold few bytes together hold few each
pub short_cells : (cells : List Content) → bytes_held cells ≤ 32000 → All (λ c. length c.bytes ≤ 32000) cells
short_cells cells few =
    All-from_get_or (λ (c : Content). length c.bytes ≤ 32000) cells empty_content
    (λ k low. let one = get_or-le-sum_by (λ (c : Content). length c.bytes) cells k empty_content low in omega (arith, one, few))

pub extent_of : (n : ℤ) → pos 1 ≤ℤ n → n ≤ℤ pos 1024 → is_control_extent n ≡ true
extent_of n least most = by_tests (int_le (pos 1) n) (int_le n (pos 1024)) refl refl
  where
    by_tests : (a b : Bool) → int_le (pos 1) n ≡ a → int_le n (pos 1024) ≡ b → (a && b) ≡ true
    by_tests true true e f = refl
    by_tests true false e f = absurd (grind (arith, ints, e, f, least, most))
    by_tests false b e f = absurd (grind (arith, ints, e, f, least, most))

-- its cells have a size that a definition may be told
pub told_fits : (l : KeptList) → IsSettledList l → is_control_size l.kept.definition.definition.size ≡ true
told_fits l settled =
    ap is_control_size settled.told
    ∙ ap (λ b. b && is_control_extent l.kept.view.down.cell) (extent_of l.kept.view.across.cell settled.view.across.cell_some settled.view.across.cell_short)
    ∙ extent_of l.kept.view.down.cell settled.view.down.cell_some settled.view.down.cell_short

module _ {B : Type 0} (meaning : B → ListLoan) where
  -- the list that is read at a place, as it is seen
  pub seen_there : (xs : List (Item (ListRecord B))) (at : ℕ) (x : Item (ListRecord B)) → at < length xs → x ≡ get_or xs at x → slice_get (all_seen meaning xs) at ≡ Some (seen meaning x)
  seen_there xs at x low read = slice_get-seen (kept_seen meaning) xs at ∙ ap (option_map (seen meaning)) (get_is xs at x low read)

  pub settled_there : (xs : List (Item (ListRecord B))) (at : ℕ) (x : Item (ListRecord B)) → at < length xs → x ≡ get_or xs at x → AreSettled (all_seen meaning xs) → IsSettledList (seen meaning x)
  settled_there xs at x low read settled = All-there IsSettledList at (all_seen meaning xs) (seen meaning x) (seen_there xs at x low read) settled

  -- what it shows
  pub shown_there : (font : List ℕ) (xs : List (Item (ListRecord B))) (at : ℕ) (x : Item (ListRecord B)) (p : Point) → at < length xs → x ≡ get_or xs at x
      → list_bit font (Some (seen meaning x)) p ≡ list_bit font (slice_get (all_seen meaning xs) at) p
  shown_there font xs at x p low read = ap (λ o. list_bit font o p) (sym (seen_there xs at x low read))

  -- ---- the list of a serial

  len_seen : (n : ℕ) (xs : List (Item (ListRecord B))) → position_or_len (has_serial n) (all_seen meaning xs) ≡ position_or_len (has_serial n) xs
  len_seen n [] = refl
  len_seen n (x ∷ xs) = ap (λ k. cond (not (has_serial n x)) (1 + k) 0) (len_seen n xs)

  pub position_seen : (n : ℕ) (xs : List (Item (ListRecord B))) → position (has_serial n) (all_seen meaning xs) ≡ position (has_serial n) xs
  position_seen n xs = rw (len_seen n xs, length-seen (kept_seen meaning) xs) refl

  -- a list shows its cells
  pub found_shows : (font : List ℕ) (xs : List (Item (ListRecord B))) (n at : ℕ) (of : Part) (p : Point) → of ≡ part.List n → Some at ≡ position (has_serial n) xs
      → list_bit font (slice_get (all_seen meaning xs) at) p ≡ lists_show (λ font. all_white) (all_seen meaning xs) font of p
  found_shows font xs n at of p is found =
      let ls = all_seen meaning xs in
      sym (ap (λ o. lists_show (λ font. all_white) ls font o p) is ∙ ap (λ o. list_bit font (option_and_then (slice_get ls) o) p) (position_seen n xs ∙ sym found))

  -- one that there is not is white
  pub none_shows : (font : List ℕ) (xs : List (Item (ListRecord B))) (n : ℕ) (of : Part) (p : Point) → of ≡ part.List n → None ≡ position (has_serial n) xs
      → lists_show (λ font. all_white) (all_seen meaning xs) font of p ≡ false
  none_shows font xs n of p is found =
      let ls = all_seen meaning xs in
      ap (λ o. lists_show (λ font. all_white) ls font o p) is ∙ ap (λ o. list_bit font (option_and_then (slice_get ls) o) p) (position_seen n xs ∙ sym found)

  -- so is what is no list
  pub others_show : (font : List ℕ) (xs : List (Item (ListRecord B))) (of : Part) (p : Point) → ((n : ℕ) → of ≡ part.List n → ⊥) → lists_show (λ font. all_white) (all_seen meaning xs) font of p ≡ false
  others_show font xs part.Picture p none = refl
  others_show font xs (part.Control n) p none = refl
  others_show font xs (part.Text n) p none = refl
  others_show font xs (part.List n) p none = absurd (none n refl)
