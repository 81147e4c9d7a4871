-- No edit of a text record lets its selection reach past its text, and none makes that too long.
use Rattle.std.proofs.Common.{◌≡◌, ℕ, ◌+◌, ◌-◌, ◌≤◌, ◌<◌, min, Bool, true, false, cond, List, [], ◌∷◌, ◌++◌, length, take, drop, ℤ, refl, arith, length-append, length-drop, length-take}
use Rattle.std.specs.Prelude.{nat_abs, nat_lt, int_le, pos, slice_range, int_lt, ◌/◌, ◌-ℤ◌, ◌+ℤ◌, ◌==◌}
use Rattle.std.proofs.lemmas.Bool.{and_parts}
use Rattle.std.proofs.lemmas.Bool.Decides.{nat_tests}
use Rattle.std.proofs.lemmas.List.Sums.{prefix_len-le-length}
use Rattle.tb_geom.specs.declared.point.Point.{Point}
use Rattle.text_lines.specs.Widths.{byte_width}
use Rattle.text_record.specs.Changes.{chosen, is_too_long, put}
use Rattle.text_record.specs.Places.{column_of, is_in_word, last_offset, line_at_row, line_in, offset_at, offset_on, passed_bytes, pen_of, row_of, word_end, word_start}
use Rattle.text_record.specs.Texts.{Record, lines_of, put_bytes}
use Rattle.text_record.proofs.PlaceLemmas.{line_in_text, line_rises, row_lies, some_line}
use Rattle.text_edits.specs.declared.selecting.Anchor.{Anchor}
use Rattle.text_edits.specs.declared.selecting.ClickMode.{ClickMode}
use Rattle.text_edits.specs.declared.selecting.ClickMode.TheVariants.{Points, Extends, Words}
use Rattle.text_edits.specs.Edits.{above, backspaced, below, deleted, inserted, is_point, is_selection, is_typed, keyed, left_of, pasted, pointed, right_of, selected, with_text}
use Rattle.text_edits.specs.Selecting.{anchor_at, anchor_of, extended, extended_to, reached}
use Rattle.desk_toolbox.specs.Reached.{IsHeld}

-- ---- other bytes, and another selection

put_long : (start end : ℕ) (other xs : List ℕ) → start ≤ end → end ≤ length xs → length (put_bytes start end other xs) ≡ (length xs - (end - start)) + length other
put_long start end other xs order within =
    let all = length-append (take start xs ++ other) (drop end xs) in
    let first = length-append (take start xs) other in
    omega (arith, all, first, length-take start xs, length-drop end xs, order, within)

pub put_held : (start end : ℕ) (other : List ℕ) (r : Record) → start ≤ end → end ≤ length r.text.bytes → (length r.text.bytes - (end - start)) + length other ≤ 32000 → IsHeld (put start end other r)
put_held start end other r order within short =
    let long = put_long start end other r.text.bytes order within in
    record {
      order = omega arith;
      within = omega (arith, long, order, within);
      short = omega (arith, long, short);
    }

pub chosen_held : (start end : ℕ) (r : Record) → start ≤ end → end ≤ length r.text.bytes → length r.text.bytes ≤ 32000 → IsHeld (chosen start end r)
chosen_held start end r order within short = record { order = order; within = within; short = short }

not_too_long : (start end : ℕ) (other : List ℕ) (r : Record) → is_too_long start end other r ≡ false → (length r.text.bytes - (end - start)) + length other ≤ 32000
not_too_long start end other r e = grind (arith, nat_tests)

-- ---- edits

module _ (r : Record) (was : IsHeld r) where
  pub set_held : (text : List ℕ) → length text ≤ 255 → IsHeld (with_text text r)
  set_held text few = put_held 0 (length r.text.bytes) text r (omega arith) (omega arith) (omega (arith, few))

  pub pasted_held : (scrap : List ℕ) → is_too_long r.start r.end scrap r ≡ false → IsHeld (pasted scrap r)
  pasted_held scrap e = put_held r.start r.end scrap r was.order was.within (not_too_long r.start r.end scrap r e)

  pub deleted_held : IsHeld (deleted r)
  deleted_held = put_held r.start r.end [] r was.order was.within (omega (arith, was.short))

  pub inserted_held : (text : List ℕ) → is_too_long r.start r.start text r ≡ false → IsHeld (inserted text r)
  inserted_held text e =
      let order = was.order in
      let within = was.within in
      let long = put_long r.start r.start text r.text.bytes (omega arith) (omega (arith, order, within)) in
      let short = not_too_long r.start r.start text r e in
      record {
        order = omega (arith, order);
        within = omega (arith, long, order, within);
        short = omega (arith, long, short);
      }

  pub pointed_held : (o : ℕ) → o ≤ length r.text.bytes → IsHeld (pointed o r)
  pointed_held o within = chosen_held o o r (omega arith) within was.short

  pub selected_held : (start end : ℤ) → is_selection start end ≡ true → IsHeld (selected (nat_abs start) (nat_abs end) r)
  selected_held start end e =
      let parts = and_parts (int_le (pos 0) start) _ e in
      let more = and_parts (int_le start end) (int_le end (pos 32767)) parts.1 in
      let order : nat_abs start ≤ nat_abs end = rises start end parts.0 more.0 in
      chosen_held (min (nat_abs start) (length r.text.bytes)) (min (nat_abs end) (length r.text.bytes)) r (omega (arith, order)) (omega arith) was.short
    where
      rises : (a b : ℤ) → int_le (pos 0) a ≡ true → int_le a b ≡ true → nat_abs a ≤ nat_abs b
      rises a b low high = grind (arith, nat_tests)

  -- ---- keys

  backspaced_held : IsHeld (backspaced r)
  backspaced_held = by_point (is_point r)
    where
      by_point : (b : Bool) → IsHeld (cond b (put (r.start - 1) r.start [] r) (deleted r))
      by_point true = put_held (r.start - 1) r.start [] r (omega arith) (omega (arith, was.order, was.within)) (omega (arith, was.short))
      by_point false = deleted_held

  left_within : left_of r ≤ length r.text.bytes
  left_within = by_point (is_point r)
    where
      by_point : (b : Bool) → cond b (r.start - 1) r.start ≤ length r.text.bytes
      by_point true = omega (arith, was.order, was.within)
      by_point false = omega (arith, was.order, was.within)

  right_within : right_of r ≤ length r.text.bytes
  right_within = by_point (is_point r)
    where
      by_point : (b : Bool) → cond b (min (r.end + 1) (length r.text.bytes)) r.end ≤ length r.text.bytes
      by_point true = omega arith
      by_point false = was.within

-- ---- offsets of points

passed_few : (widths : List ℕ) (ahead : ℤ) (cs : List ℕ) → passed_bytes widths ahead cs ≤ length cs
passed_few widths ahead [] = omega arith
passed_few widths ahead (c ∷ cs) = by_test (int_le (pos (byte_width widths c)) (ahead +ℤ ahead)) (passed_few widths (ahead -ℤ pos (byte_width widths c)) cs)
  where
    by_test : (b : Bool) → passed_bytes widths (ahead -ℤ pos (byte_width widths c)) cs ≤ length cs → cond b (1 + passed_bytes widths (ahead -ℤ pos (byte_width widths c)) cs) 0 ≤ length (c ∷ cs)
    by_test true rest = omega (arith, rest)
    by_test false rest = omega arith

pub range_few : (xs : List ℕ) (a b : ℕ) → length (slice_range xs a b) ≤ b - a
range_few xs a b = omega (arith, length-take (b - a) (drop a xs))

-- an offset of a line that is there lies in the text
offset_within : (r : Record) (j : ℕ) (h : ℤ) → j < length (lines_of r.text) → offset_on r j h ≤ length r.text.bytes
offset_within r j h low =
    let l = line_in r j in
    let rises = line_rises r.text j low in
    let ends = line_in_text r.text j low in
    let last = last_few (nat_lt (j + 1) (length (lines_of r.text))) in
    let few = passed_few r.text.widths (h -ℤ pen_of r l) (slice_range r.text.bytes l.start (last_offset r j)) in
    let range = range_few r.text.bytes l.start (last_offset r j) in
    omega (arith, rises, ends, last, few, range)
  where
    last_few : (b : Bool) → cond b ((line_in r j).end - 1) (line_in r j).end ≤ (line_in r j).end
    last_few true = omega arith
    last_few false = omega arith

row_there : (r : Record) (v : ℤ) → line_at_row r v < length (lines_of r.text)
row_there r v = by_test (int_lt v r.top)
  where
    by_test : (b : Bool) → cond b 0 (min (nat_abs (v -ℤ r.top) / r.height) (length (lines_of r.text) - 1)) < length (lines_of r.text)
    by_test true = omega (arith, some_line r.text)
    by_test false = omega (arith, some_line r.text)

pub at_within : (r : Record) (p : Point) → offset_at r p ≤ length r.text.bytes
at_within r p = offset_within r (line_at_row r p.v) p.h (row_there r p.v)

module _ (r : Record) (was : IsHeld r) where
  above_within : above r ≤ length r.text.bytes
  above_within = by_test (row_of r r.start == 0)
    where
      by_test : (b : Bool) → cond b 0 (offset_on r (row_of r r.start - 1) (column_of r r.start)) ≤ length r.text.bytes
      by_test true = omega arith
      by_test false = offset_within r (row_of r r.start - 1) (column_of r r.start) (omega (arith, (row_lies r.text r.start).there))

  below_within : below r ≤ length r.text.bytes
  below_within = by_test (nat_lt (row_of r r.end + 1) (length (lines_of r.text))) refl
    where
      low : (a b : ℕ) → nat_lt a b ≡ true → a < b
      low a b e = grind (arith, nat_tests)

      by_test : (b : Bool) → nat_lt (row_of r r.end + 1) (length (lines_of r.text)) ≡ b → cond b (offset_on r (row_of r r.end + 1) (column_of r r.end)) (length r.text.bytes) ≤ length r.text.bytes
      by_test true e = offset_within r (row_of r r.end + 1) (column_of r r.end) (low _ _ e)
      by_test false e = omega arith

  -- a key that is typed has room
  pub keyed_held : (key : ℕ) → (is_typed key ≡ true → is_too_long r.start r.end (key ∷ []) r ≡ false) → IsHeld (keyed key r)
  keyed_held key room = by_keys (key == 8) refl (key == 28) refl (key == 29) refl (key == 30) refl (key == 31) refl
    where
      typed : (k : ℕ) → (k == 8) ≡ false → (k == 28) ≡ false → (k == 29) ≡ false → (k == 30) ≡ false → (k == 31) ≡ false → is_typed k ≡ true
      typed k a b c d e = grind (arith, nat_tests)

      by_keys : (a : Bool) → (key == 8) ≡ a → (b : Bool) → (key == 28) ≡ b → (c : Bool) → (key == 29) ≡ c → (d : Bool) → (key == 30) ≡ d → (e : Bool) → (key == 31) ≡ e
          → IsHeld (cond a (backspaced r) (cond b (pointed (left_of r) r) (cond c (pointed (right_of r) r) (cond d (pointed (above r) r) (cond e (pointed (below r) r) (pasted (key ∷ []) r))))))
      by_keys true p b q c s d t e u = backspaced_held r was
      by_keys false p true q c s d t e u = pointed_held r was (left_of r) (left_within r was)
      by_keys false p false q true s d t e u = pointed_held r was (right_of r) (right_within r was)
      by_keys false p false q false s true t e u = pointed_held r was (above r) above_within
      by_keys false p false q false s false t true u = pointed_held r was (below r) below_within
      by_keys false p false q false s false t false u = pasted_held r was (key ∷ []) (room (typed key p q s t u))

-- ---- selecting with the mouse

word_within : (bytes : List ℕ) (o : ℕ) → word_end bytes o ≤ length bytes
word_within bytes o = omega (arith, prefix_len-le-length is_in_word (drop o bytes), length-drop o bytes)

reached_within : (mode : ClickMode) (o : ℕ) (r : Record) → o ≤ length r.text.bytes → (reached mode o r).end ≤ length r.text.bytes
reached_within Points o r low = low
reached_within Extends o r low = low
reached_within Words o r low = word_within r.text.bytes o

-- what stays selected lies in the text
pub record IsAnchorIn (a : Anchor) (r : Record) : Type 0 where
  pub order : a.start ≤ a.end
  pub within : a.end ≤ length r.text.bytes

pub extended_held : (a : Anchor) (mode : ClickMode) (p : Point) (r : Record) → IsHeld r → IsAnchorIn a r → IsHeld (extended_to a mode p r)
extended_held a mode p r was its =
    let end = reached_within mode (offset_at r p) r (at_within r p) in
    let order = its.order in
    let within = its.within in
    chosen_held (extended a mode p r).start (extended a mode p r).end r (omega (arith, order)) (omega (arith, end, within)) was.short

-- so does what a click begins with
word_rises : (bytes : List ℕ) (o : ℕ) → (word_start bytes o) ≤ word_end bytes o
word_rises bytes o = omega arith

pub anchor_in : (mode : ClickMode) (p : Point) (r : Record) → IsHeld r → IsAnchorIn (anchor_of mode (offset_at r p) r) r
anchor_in Points p r was = record { order = omega arith; within = at_within r p }
anchor_in Words p r was = record { order = word_rises r.text.bytes (offset_at r p); within = word_within r.text.bytes (offset_at r p) }
anchor_in Extends p r was = by_side (nat_lt (offset_at r p) r.start)
  where
    by_side : (b : Bool) → IsAnchorIn (cond b (anchor_at r.end) (anchor_at r.start)) r
    by_side true = record { order = omega arith; within = was.within }
    by_side false = record { order = omega arith; within = omega (arith, was.order, was.within) }
