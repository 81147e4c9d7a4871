-- Above the row of a change a record shows the same.
use Rattle.std.proofs.Common.{◌≡◌, inl, inr, nat_lt, ℕ, zero, suc, ◌+◌, ◌-◌, ◌*◌, ◌<◌, ◌≤◌, max, min, Bool, true, false, not, cond, ◌&&◌, ◌||◌, List, [], ◌∷◌, length, take, drop, ℤ, pos, negsuc, ◌+ℤ◌, ◌-ℤ◌, ◌<ℤ◌, ◌≤ℤ◌, refl, sym, ap, subst, ◌∙◌, arith, mul-le-mul}
use Rattle.std.specs.List.{slice_range}
use Rattle.std.proofs.lemmas.Bool.{cases_lt}
use Rattle.std.proofs.lemmas.Bool.Decides.{nat_tests}
use Rattle.std.proofs.lemmas.Int.{ints}
use Rattle.std.proofs.lemmas.List.{drop-take, take-take}
use Rattle.tb_geom.specs.declared.point.Point.{Point}
use Rattle.tb_geom.specs.Rects.{between, rect_holds}
use Rattle.strike_font.specs.declared.glyph.Glyph.{Glyph}
use Rattle.strike_font.specs.Record.{ascent}
use Rattle.strike_font.specs.Text.{glyph_bit, glyph_of, glyph_pixel, glyphs_pixel, text_holds}
use Rattle.text_lines.specs.declared.line.TextLine.{TextLine}
use Rattle.text_lines.proofs.FollowLemmas.{found_lies, line_bounds, lines_some}
use Rattle.text_record.specs.Texts.{Record, room_of}
use Rattle.text_record.specs.Places.{drawn_bytes, indent, inked_bytes, line_in, line_top, row_of, without_return}
use Rattle.text_lines.specs.Widths.{bytes_width}
use Rattle.text_paint.specs.Rows.{IsChangedFrom, change_row}
use Rattle.text_paint.specs.Shown.{frame_holds, has_part, is_inverted, line_count, line_holds, line_pen, part_holds, part_left, part_right, rows_between, some_line, text_shown, view_bit, with_lines}
use Rattle.text_lines.proofs.StayLemmas.{lines_stay}

-- ---- lines by their number

-- lines that are not so from one on tell nothing
some_upto : (f : ℕ → Bool) (k n : ℕ) → k ≤ n → ((j : ℕ) → k ≤ j → f j ≡ false) → some_line n f ≡ some_line k f
some_upto f zero zero p none = refl
some_upto f (suc k) zero p none = absurd (omega (arith, p))
some_upto f k (suc n) p none = elim (cases_lt n k) [
  | inl l ↦ let same : suc n ≡ k = omega (arith, p, l) in ap (λ i. some_line i f) same
  | inr l ↦ first_not (f n) (some_line n f) (none n l) ∙ some_upto f k n l none
]
  where
    first_not : (a b : Bool) → a ≡ false → (a || b) ≡ b
    first_not true b e = absurd (cc e)
    first_not false b e = refl

-- lines that are so in both
some_alike : (f g : ℕ → Bool) (k : ℕ) → ((j : ℕ) → j < k → f j ≡ g j) → some_line k f ≡ some_line k g
some_alike f g zero same = refl
some_alike f g (suc k) same = λ i. same k (omega arith) i || some_alike f g k (λ j l. same j (omega (arith, l))) i

-- ---- glyphs

bit_above : (font : List ℕ) (g : Glyph) (x y : ℤ) → y <ℤ pos 0 → glyph_bit font g x y ≡ false
bit_above font g (pos k) (pos r) l = absurd (omega (arith, ints, l))
bit_above font g (pos k) (negsuc r) l = refl
bit_above font g (negsuc k) r l = refl

pixel_above : (font : List ℕ) (g : Glyph) (x y : ℤ) → (y +ℤ pos (ascent font)) <ℤ pos 0 → glyph_pixel font g x y ≡ false
unfolding glyph_pixel
pixel_above font g x y l = bit_above font g _ (y +ℤ pos (ascent font)) l

neither : (a b : Bool) → a ≡ false → b ≡ false → (a || b) ≡ false
neither true b p q = p
neither false b p q = q

glyphs_above : (font text : List ℕ) (across : ℕ) (x y : ℤ) → (y +ℤ pos (ascent font)) <ℤ pos 0 → glyphs_pixel font text across x y ≡ false
glyphs_above font [] across x y l = refl
glyphs_above font (c ∷ cs) across x y l = neither _ _ (pixel_above font (glyph_of font c) (x -ℤ pos across) y l) (glyphs_above font cs (across + (glyph_of font c).width) x y l)

text_above : (font text : List ℕ) (pen p : Point) → ((p.v -ℤ pen.v) +ℤ pos (ascent font)) <ℤ pos 0 → text_holds font text pen p ≡ false
unfolding text_holds
text_above font text pen p l = glyphs_above font text 0 (p.h -ℤ pen.h) (p.v -ℤ pen.v) l

-- ---- rows

none_of : (a b : Bool) → b ≡ false → (a && b) ≡ false
none_of true b e = e
none_of false b e = refl

not_yet : (low x high : ℤ) → x <ℤ low → between low x high ≡ false
not_yet low x high l = grind (arith, ints, l)

lower : (top : ℤ) (j k height : ℕ) → k ≤ j → (top +ℤ pos (k * height)) ≤ℤ (top +ℤ pos (j * height))
lower top j k height p =
    let less : k * height ≤ j * height = mul-le-mul p (omega arith) in
    omega (arith, ints, less)

-- the rows of a line and of those below it
rows_above : (r : Record) (j k : ℕ) (left right : ℤ) (p : Point) → k ≤ j → p.v <ℤ line_top r k → rect_holds (rows_between r j left right) p ≡ false
rows_above r j k left right p l above =
    none_of (between left p.h right) _ (not_yet (line_top r j) p.v (line_top r j +ℤ pos r.height) (omega (arith, ints, above, lower r.top j k r.height l)))

-- the drawn bytes of a line, and of those below it
line_above : (font : List ℕ) (r : Record) (j k : ℕ) (p : Point) → k ≤ j → p.v <ℤ (line_top r k -ℤ pos (ascent font - r.ascent)) → line_holds font r j p ≡ false
line_above font r j k p l above =
    text_above font (drawn_bytes r.text.bytes (line_in r j)) (line_pen r j) p (omega (arith, ints, above, lower r.top j k r.height l))

-- ---- the selection

no_part : (start end from to m : ℕ) → to ≤ m → m ≤ start → nat_lt (max start from) (min end to) ≡ false
no_part start end from to m p q = grind (arith, nat_tests, p, q)

not_inverted : (active range highlight caret here : Bool) → highlight ≡ false → here ≡ false → (active && cond range highlight (caret && here)) ≡ false
not_inverted false range highlight caret here e f = refl
not_inverted true true highlight caret here e f = e
not_inverted true false highlight caret here e f = none_of caret here f

-- ---- one record

module _ (font : List ℕ) (r : Record) (m k : ℕ) (p : Point) (above : p.v <ℤ (line_top r k -ℤ pos (ascent font - r.ascent)))
    (ended : (j : ℕ) → j < k → (line_in r j).end ≤ m) (within : m ≤ r.start) (counted : k < line_count r) where
  above_line : p.v <ℤ line_top r k
  above_line = omega (arith, ints, above)

  part_above : (j : ℕ) → part_holds r j p ≡ false
  part_above j = elim (cases_lt j k) [
    | inl before ↦ ap (λ b. b && rect_holds (rows_between r j (part_left r j) (part_right r j)) p) (no_part r.start r.end (line_in r j).start (line_in r j).end m (ended j before) within)
    | inr behind ↦ none_of (has_part r j) _ (rows_above r j k (part_left r j) (part_right r j) p behind above_line)
  ]

  parts_above : (n : ℕ) → some_line n (λ j. part_holds r j p) ≡ false
  parts_above zero = refl
  parts_above (suc n) = neither _ _ (part_above n) (parts_above n)

  caret_row : k ≤ row_of r r.start
  caret_row = elim (cases_lt (row_of r r.start) k) [
    | inl before ↦
        let on = found_lies r.text.widths (room_of r.text.wrap r.text.width) r.text.bytes r.start in
        elim (cases_lt (row_of r r.start + 1) (line_count r)) [
          | inl further ↦ absurd (omega (arith, on.ahead further, ended (row_of r r.start) before, within))
          | inr last ↦ omega (arith, last, counted, before)
        ]
    | inr behind ↦ behind
  ]

  nothing_inverted : is_inverted r p ≡ false
  nothing_inverted = not_inverted r.active _ _ r.caret _ (parts_above (line_count r)) (rows_above r (row_of r r.start) k _ _ p caret_row above_line)

  -- the lines before that one alone show
  first_lines : view_bit font r p ≡ (some_line k (λ j. line_holds font r j p) || false)
  first_lines =
      ap (λ b. cond b (not (with_lines font r p false)) (with_lines font r p false)) nothing_inverted
      ∙ ap (λ b. b || false) (some_upto (λ j. line_holds font r j p) k (line_count r) (omega (arith, counted)) (λ j l. line_above font r j k p l above))

-- ---- both

slice_same : (a e m : ℕ) (xs ys : List ℕ) → a ≤ e → e ≤ m → take m xs ≡ take m ys → slice_range xs a e ≡ slice_range ys a e
slice_same a e m xs ys p q same = cut_of xs ∙ ap (λ zs. drop a (take e zs)) same ∙ sym (cut_of ys)
  where
    cut_of : (zs : List ℕ) → slice_range zs a e ≡ drop a (take e (take m zs))
    cut_of zs =
        let whole : a + (e - a) ≡ e = omega (arith, p) in
        sym (drop-take a (e - a) zs) ∙ ap (λ n. drop a (take n zs)) whole ∙ ap (drop a) (sym (take-take e m zs q))

-- what shows of a line by its drawn bytes
drawn_line : List ℕ → Record → ℕ → Point → List ℕ → Bool
drawn_line font r j p drawn =
    text_holds font drawn (record {
      h = (r.left +ℤ pos 1) +ℤ indent r.justification ((pos r.text.width -ℤ pos 1) -ℤ pos (bytes_width r.text.widths (inked_bytes drawn)));
      v = line_top r j +ℤ pos r.ascent;
    }) p

module _ (font : List ℕ) (r : Record) (bytes : List ℕ) (start end : ℕ) (caret : Bool) (m : ℕ) (p : Point)
    (long : m ≤ length r.text.bytes) (same : take m bytes ≡ take m r.text.bytes) (within : m ≤ r.start) (behind : m ≤ start) where
  abbrev changed : Record
  changed = record r { text = record r.text { bytes = bytes }; start = start; end = end; caret = caret }

  abbrev first : ℕ
  first = row_of r (m - 1) - 1

  stays : (j : ℕ) → j < first → (line_in changed j ≡ line_in r j) × (j + 1 < line_count changed) × ((line_in r j).end ≤ m)
  stays j l = lines_stay r.text.widths (room_of r.text.wrap r.text.width) r.text.bytes bytes m j long (sym same) (omega (arith, l))

  counted : first < line_count r
  counted = omega (arith, (found_lies r.text.widths (room_of r.text.wrap r.text.width) r.text.bytes (m - 1)).there)

  counted_too : (k : ℕ) → k ≡ first → k < line_count changed
  counted_too zero e = lines_some r.text.widths (room_of r.text.wrap r.text.width) bytes
  counted_too (suc j) e = omega (arith, (stays j (omega (arith, e))).1)

  line_same : (j : ℕ) → j < first → line_holds font changed j p ≡ line_holds font r j p
  unfolding text_holds drawn_line
  line_same j l =
      let order = (line_bounds r.text.widths (room_of r.text.wrap r.text.width) r.text.bytes j (omega (arith, l, counted))).0 in
      ap (λ (at : TextLine). drawn_line font r j p (drawn_bytes bytes at)) (stays j l).0
      ∙ ap (λ cs. drawn_line font r j p (without_return cs)) (slice_same (line_in r j).start (line_in r j).end m bytes r.text.bytes order (stays j l).2 same)

  module _ (above : p.v <ℤ change_row font m r) where
    view_same : view_bit font changed p ≡ view_bit font r p
    view_same =
        first_lines font changed m first p above (λ j l. subst (λ (at : TextLine). at.end ≤ m) (sym (stays j l).0) (stays j l).2) behind (counted_too first refl)
        ∙ ap (λ b. b || false) (some_alike (λ j. line_holds font changed j p) (λ j. line_holds font r j p) first line_same)
        ∙ sym (first_lines font r m first p above (λ j l. (stays j l).2) within counted)

    shown_same : text_shown font changed p ≡ text_shown font r p
    shown_same = ap (λ b. cond (rect_holds r.view p) b (frame_holds r p)) view_same

-- a record whose bytes changed from an offset on shows the same above that row
pub all_above : (font : List ℕ) (r u : Record) (m : ℕ) (p : Point) → IsChangedFrom m r u → p.v <ℤ change_row font m r → text_shown font u p ≡ text_shown font r p
all_above font r u m p from above =
    let made : u ≡ record r { text = record r.text { bytes = u.text.bytes }; start = u.start; end = u.end; caret = u.caret } =
    from.rest ∙ ap (λ t. record r { text = t; start = u.start; end = u.end; caret = u.caret }) from.lined in
    ap (λ v. text_shown font v p) made
    ∙ shown_same font r u.text.bytes u.start u.end u.caret m p from.long from.bytes from.within from.behind above
