-- Counting the pixels that differ from the desk painted from nothing.
use Rattle.std.proofs.Common.{◌≡◌, ℕ, ◌+◌, Bool, true, false, not, ◌&&◌, if◌then◌else◌, cond, fold, inl, inr, List, [], ◌∷◌, map, sum, count_by, Option, Some, None, ℤ, pos, nat_abs, refl, sym, ap, ◌∙◌, arith}
use Rattle.std.specs.Bool.{beq}
use Rattle.std.specs.List.{range_with_len}
use Rattle.std.proofs.lemmas.Bool.{cases_Bool}
use Rattle.std.proofs.lemmas.List.FromFn.{sum_by-map-range_with_len_more}
use Rattle.tb_geom.specs.declared.point.Point.{Point}
use Rattle.tb_geom.specs.Points.{PixelSet}
use Rattle.tb_geom.specs.Rects.{between, rect_holds}
use Rattle.bit_map.specs.Bits.{Bits, on_map, bit}
use Rattle.region_bytes.specs.Edges.{differ}
use Rattle.desk_layers.specs.Desk.{on_screen}
use Rattle.desk_layers.specs.Scratch.{scratch}
use Rattle.window_mgr.proofs.Arranged.{between-is_below}
use Rattle.window_mgr.specs.FullDesk.{FullDesk, IsRightState, layered_desk}
use Rattle.bit_map.specs.Modes.{xor_bit}
use Rattle.bit_map.specs.Patterns.{pattern_bit, gray}
use Rattle.overlay.specs.Overlays.{Pulled, pulled_bit, pulled_rect, shown_bit}
use Rattle.desk_toolbox.specs.Fronts.{is_on_outline, pulled, screen_of, screen_scratch, with_outline}
use Rattle.desk_toolbox.specs.ToolboxStates.{ToolboxState}
use Rattle.scratch_paint.specs.Screens.{IsAsLarge, IsPaintedScreen}
use Rattle.scratch_paint.specs.Differences.{differs, row_differences, differences_of, difference_count}

-- ---- a desk that is right

alike : (b : Bool) → differ b b ≡ false
alike true = refl
alike false = refl

-- what is shown over two images is the same where they are
shown_alike : (font : List ℕ) (m : Option Pulled) (base other : PixelSet) (p : Point) → base p ≡ other p → shown_bit font m base p ≡ shown_bit font m other p
shown_alike font None base other p e = e
shown_alike font (Some m) base other p e = ap (λ b. if rect_holds (pulled_rect m.place m.size) p then pulled_bit font m p else b) e

pub front_alike : (s : ToolboxState) (base other : PixelSet) (p : Point) → base p ≡ other p
    → with_outline s (shown_bit s.desk.windows.desk.font (pulled s) base) p ≡ with_outline s (shown_bit s.desk.windows.desk.font (pulled s) other) p
front_alike s base other p e =
    ap (λ v. if is_on_outline s p then xor_bit (pattern_bit gray p) v else v) (shown_alike s.desk.windows.desk.font (pulled s) base other p e)

nowhere : (s : ToolboxState) → IsRightState s.desk.windows → (p : Point) → differs s (screen_scratch s) p ≡ false
nowhere s right p =
    elim (cases_Bool (on_screen (layered_desk s.desk.windows.desk) p)) [
      | inl on ↦ elim (cases_Bool (s.desk.windows.stale p)) [
        | inl stale ↦ rw (on, stale) refl
        | inr fresh ↦
            let shown : screen_of s p ≡ screen_scratch s p =
            front_alike s s.desk.windows.image (scratch (layered_desk s.desk.windows.desk)) p (right.plain.right p on fresh) in
            (λ i. on i && (not (fresh i) && differ (shown i) (screen_scratch s p))) ∙ alike (screen_scratch s p)
      ]
      | inr off ↦ rw off refl
    ]

folded_alike : {X : Type 0} (h k : ℕ → X → ℕ) → ((a : ℕ) (x : X) → h a x ≡ k a x) → (a : ℕ) (xs : List X) → fold h a xs ≡ fold k a xs
folded_alike h k same a [] = refl
folded_alike h k same a (x ∷ xs) = ap (λ b. fold h b xs) (same a x) ∙ folded_alike h k same (k a x) xs

counted_alike : {X : Type 0} (f g : X → Bool) → ((x : X) → f x ≡ g x) → (xs : List X) → count_by f xs ≡ count_by g xs
counted_alike f g same xs = folded_alike (λ a x. a + cond (f x) 1 0) (λ a x. a + cond (g x) 1 0) (λ a x. ap (λ b. a + cond b 1 0) (same x)) 0 xs

none_counted : {X : Type 0} (test : X → Bool) → ((x : X) → test x ≡ false) → (xs : List X) → count_by test xs ≡ 0
none_counted test none [] = refl
none_counted test none (x ∷ xs) = rw (none x) (none_counted test none xs)

mapped_alike : (f g : ℕ → ℕ) → ((n : ℕ) → f n ≡ g n) → (ns : List ℕ) → map f ns ≡ map g ns
mapped_alike f g same [] = refl
mapped_alike f g same (n ∷ ns) = λ i. same n i ∷ mapped_alike f g same ns i

no_sum : (f : ℕ → ℕ) → ((n : ℕ) → f n ≡ 0) → (ns : List ℕ) → sum (map f ns) ≡ 0
no_sum f none [] = refl
no_sum f none (n ∷ ns) = rw (none n) (no_sum f none ns)

pub none_differs : (s : ToolboxState) → IsRightState s.desk.windows → difference_count s ≡ 0
unfolding row_differences differences_of
none_differs s right =
    no_sum (row_differences s (screen_scratch s) (nat_abs s.desk.windows.desk.width)) (λ v. none_counted (differs s (screen_scratch s)) (nowhere s right) (map (λ h. record { h = pos h; v = pos v }) (range_with_len 0 (nat_abs s.desk.windows.desk.width))))
    (range_with_len 0 (nat_abs s.desk.windows.desk.height))

-- ---- from a map that was painted from nothing

module _ (s : ToolboxState) (m : Bits) (painted : IsPaintedScreen s m) where
  from_painted : (p : Point) → differs s (bit m) p ≡ differs s (screen_scratch s) p
  from_painted p = by_test (on_screen (layered_desk s.desk.windows.desk) p) refl
    where
      by_test : (b : Bool) → on_screen (layered_desk s.desk.windows.desk) p ≡ b → differs s (bit m) p ≡ differs s (screen_scratch s) p
      by_test true on = λ i. on_screen (layered_desk s.desk.windows.desk) p && (not (s.desk.windows.stale p) && differ (screen_of s p) (painted.pixels p on i))
      by_test false off = rw off refl

  -- as many pixels differ from it as from the desk painted from nothing
  pub as_many_differ : (n : ℕ) → n ≡ differences_of s (bit m) m.width m.height → n ≡ difference_count s
  unfolding row_differences differences_of
  as_many_differ n counted =
      counted
      ∙ ap sum (mapped_alike (row_differences s (bit m) m.width) (row_differences s (screen_scratch s) m.width)
      (λ v. counted_alike (differs s (bit m)) (differs s (screen_scratch s)) from_painted (map (λ h. record { h = pos h; v = pos v }) (range_with_len 0 m.width)))
      (range_with_len 0 m.height))
      ∙ (λ i. differences_of s (screen_scratch s) (nat_abs (painted.wide i)) (nat_abs (painted.high i)))

-- ---- pixel by pixel

and_true : (b : Bool) → (b && true) ≡ b
and_true true = refl
and_true false = refl

-- the pixels of a map that is as wide and high as the screen are the screen's
pub on_its_screen : (desk : FullDesk) (m : Bits) → pos m.width ≡ desk.width → pos m.height ≡ desk.height → (p : Point) → on_screen (layered_desk desk) p ≡ on_map m p
unfolding on_map
on_its_screen desk m wide high p =
    (λ i. between (pos 0) p.h (sym wide i) && between (pos 0) p.v (sym high i))
    ∙ (λ i. between-is_below m.width p.h i && between-is_below m.height p.v i)

-- a pixel of one such map is one of another
pub on_both : (s : ToolboxState) (m screen : Bits) → IsAsLarge s m → pos screen.width ≡ s.desk.windows.desk.width → pos screen.height ≡ s.desk.windows.desk.height → (p : Point) → on_map m p ≡ true → on_map screen p ≡ true
on_both s m screen large wide high p on =
    sym (on_its_screen s.desk.windows.desk screen wide high p) ∙ on_its_screen s.desk.windows.desk m large.wide large.high p ∙ on

unlike : (a b : Bool) → not (beq a b) ≡ true → differ a b ≡ true
unlike true true e = absurd (cc)
unlike true false e = refl
unlike false true e = refl
unlike false false e = absurd (cc)

like : (a b : Bool) → not (beq a b) ≡ false → differ a b ≡ false
like true true e = refl
like true false e = absurd (cc)
like false true e = absurd (cc)
like false false e = refl

and_false : (b : Bool) → (b && false) ≡ false
and_false true = refl
and_false false = refl

-- a pixel whose bits are those of the screen and of a map as large
module _ (s : ToolboxState) (m : Bits) (p : Point) (large : IsAsLarge s m) (on : on_map m p ≡ true) where
  there : on_screen (layered_desk s.desk.windows.desk) p ≡ true
  there = on_its_screen s.desk.windows.desk m large.wide large.high p ∙ on

  differs_where : differs s (bit m) p ≡ (not (s.desk.windows.stale p) && differ (screen_of s p) (bit m p))
  differs_where = λ i. there i && (not (s.desk.windows.stale p) && differ (screen_of s p) (bit m p))

  -- where the two bits are the same
  pub alike_if : (a b : Bool) → a ≡ screen_of s p → b ≡ bit m p → not (beq a b) ≡ false → not (beq a b) ≡ differs s (bit m) p
  alike_if a b shown painted alike =
      let no : differ (screen_of s p) (bit m p) ≡ false = sym (λ i. differ (shown i) (painted i)) ∙ like a b alike in
      alike ∙ sym (and_false (not (s.desk.windows.stale p))) ∙ ap (λ y. not (s.desk.windows.stale p) && y) (sym no) ∙ sym differs_where

  -- where the two bits are not the same
  pub differs_if : (a b stale : Bool) → a ≡ screen_of s p → b ≡ bit m p → not (beq a b) ≡ true → stale ≡ s.desk.windows.stale p → not stale ≡ differs s (bit m) p
  differs_if a b stale shown painted unlikely is =
      let yes : differ (screen_of s p) (bit m p) ≡ true = sym (λ i. differ (shown i) (painted i)) ∙ unlike a b unlikely in
      ap not is ∙ sym (and_true (not (s.desk.windows.stale p))) ∙ ap (λ y. not (s.desk.windows.stale p) && y) (sym yes) ∙ sym differs_where

-- one pixel more
row_more : (s : ToolboxState) (value : PixelSet) (v h : ℕ) → row_differences s value (h + 1) v ≡ row_differences s value h v + cond (differs s value (record { h = pos h; v = pos v })) 1 0
unfolding row_differences
row_more s value v h = sum_by-map-range_with_len_more (λ p. cond (differs s value p) 1 0) (λ n. record { h = pos n; v = pos v }) 0 h h (omega arith)

pub counted_pixel : (s : ToolboxState) (value : PixelSet) (row column n new : ℕ) (result : Bool) (h v : ℤ) → n ≡ row_differences s value column row → result ≡ differs s value (record { h = h; v = v })
    → h ≡ pos column → v ≡ pos row → new ≡ n + cond result 1 0 → new ≡ row_differences s value (column + 1) row
counted_pixel s value row column n new result h v counted is at below more =
    more ∙ ap (λ k. k + cond result 1 0) counted
    ∙ ap (λ b. row_differences s value column row + cond b 1 0) (is ∙ (λ i. differs s value (record { h = at i; v = below i })))
    ∙ sym (row_more s value row column)

pub row_start : (s : ToolboxState) (value : PixelSet) (v : ℕ) → row_differences s value 0 v ≡ 0
unfolding row_differences
row_start s value v = refl

-- all pixels of a row
pub row_whole : (s : ToolboxState) (value : PixelSet) (row column width n : ℕ) → column ≡ width → n ≡ row_differences s value column row → n ≡ row_differences s value width row
row_whole s value row column width n all counted = counted ∙ ap (λ k. row_differences s value k row) all

-- one row more
rows_more : (s : ToolboxState) (value : PixelSet) (width v : ℕ) → differences_of s value width (v + 1) ≡ differences_of s value width v + row_differences s value width v
unfolding differences_of
rows_more s value width v = sum_by-map-range_with_len_more (λ n. n) (row_differences s value width) 0 v v (omega arith)

pub counted_row : (s : ToolboxState) (value : PixelSet) (width row n more : ℕ) → n ≡ differences_of s value width row → more ≡ row_differences s value width row → n + more ≡ differences_of s value width (row + 1)
counted_row s value width row n more counted is = (λ i. counted i + is i) ∙ sym (rows_more s value width row)

pub rows_start : (s : ToolboxState) (value : PixelSet) (width : ℕ) → differences_of s value width 0 ≡ 0
unfolding differences_of
rows_start s value width = refl

-- all rows
pub rows_whole : (s : ToolboxState) (value : PixelSet) (width row height n : ℕ) → row ≡ height → n ≡ differences_of s value width row → n ≡ differences_of s value width height
rows_whole s value width row height n all counted = counted ∙ ap (λ k. differences_of s value width k) all
