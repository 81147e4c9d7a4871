-- An image tells the pixels of its sides and no others: where two sets of pixels have the same of these, it is the same.
use Rattle.std.proofs.Common.{◌≡◌, ℕ, zero, suc, ◌+◌, ◌-◌, ◌*◌, ◌/◌, ◌%◌, ◌^◌, ◌<◌, pos, Bool, true, false, cond, ◌&&◌, List, ◌∷◌, ◌++◌, map, codes, refl, ap, ◌∙◌, subst, arith}
use Rattle.std.specs.Prelude.{nat_abs, nat_lt, sum_by, Result}
use Rattle.std.specs.List.{flat_map, range_with_len}
use Rattle.std.proofs.lemmas.Bool.Decides.{nat_tests}
use Rattle.tb_geom.specs.declared.point.Point.{Point}
use Rattle.tb_geom.specs.declared.refusal.Refusal.{Refusal}
use Rattle.tb_geom.specs.Points.{PixelSet}
use Rattle.bit_map.specs.Bits.{Bits, bit, on_map}
use Rattle.desk_toolbox.specs.Fronts.{screen_of}
use Rattle.desk_toolbox.specs.ToolboxStates.{ToolboxState}
use Rattle.screen_pbm.specs.Pbm.{column_value, digit_of, head_text, line_count, line_text, p1, p4, row_byte, row_bytes, row_digits, row_text}
use Rattle.script_text.specs.declared.command.Command.TheVariants.{Image}
use Rattle.watched_io.specs.Writes.{Output, Sends}
use Rattle.script_runner.specs.Endings.{IsAnswered}
use Rattle.script_runner.specs.Session.{image_shown, image_text}

-- ---- over a range of numbers, functions that agree there

map_same : {X : Type 0} (f g : ℕ → X) (a n : ℕ) → ((k : ℕ) → k < a + n → f k ≡ g k) → map f (range_with_len a n) ≡ map g (range_with_len a n)
map_same f g a zero same = refl
map_same f g a (suc n) same =
    let here : f a ≡ g a = same a (omega arith) in
    let rest : map f (range_with_len (a + 1) n) ≡ map g (range_with_len (a + 1) n) = map_same f g (a + 1) n (λ k less. same k (omega arith)) in
    λ i. here i ∷ rest i

flat_map_same : (f g : ℕ → List ℕ) (a n : ℕ) → ((k : ℕ) → k < a + n → f k ≡ g k) → flat_map f (range_with_len a n) ≡ flat_map g (range_with_len a n)
flat_map_same f g a zero same = refl
flat_map_same f g a (suc n) same =
    let here : f a ≡ g a = same a (omega arith) in
    let rest : flat_map f (range_with_len (a + 1) n) ≡ flat_map g (range_with_len (a + 1) n) = flat_map_same f g (a + 1) n (λ k less. same k (omega arith)) in
    λ i. here i ++ rest i

-- ---- images

-- the pixel in this column and row
abbrev at : ℕ → ℕ → Point
at h v = record { h = pos h; v = pos v }

module _ (f g : PixelSet) (width : ℕ) where
  -- of a row, its pixels
  module _ (v : ℕ) (same : (h : ℕ) → h < width → f (at h v) ≡ g (at h v)) where
    digits_same : row_digits width f v ≡ row_digits width g v
    unfolding row_digits
    digits_same = map_same (λ h. digit_of (f (at h v))) (λ h. digit_of (g (at h v))) 0 width (λ h less. ap digit_of (same h (omega arith)))

    text_same : row_text width f v ≡ row_text width g v
    unfolding row_text
    text_same = ap (λ digits. flat_map (line_text digits) (range_with_len 0 (line_count width))) digits_same

    column_same : (h : ℕ) → column_value width f v h ≡ column_value width g v h
    column_same h = by_test (nat_lt h width) refl
      where
        within : nat_lt h width ≡ true → h < width
        within t = grind (arith, nat_tests)

        by_test : (b : Bool) → nat_lt h width ≡ b → cond (b && f (at h v)) (2 ^ (7 - h % 8)) 0 ≡ cond (b && g (at h v)) (2 ^ (7 - h % 8)) 0
        by_test false t = refl
        by_test true t = ap (λ (b : Bool). cond b (2 ^ (7 - h % 8)) 0) (same h (within t))

    byte_same : (k : ℕ) → row_byte width f v k ≡ row_byte width g v k
    unfolding row_byte
    byte_same k = λ i. sum_by (λ h. column_same h i) (range_with_len (8 * k) 8)

    bytes_same : row_bytes width f v ≡ row_bytes width g v
    unfolding row_bytes
    bytes_same = λ i. map (λ k. byte_same k i) (range_with_len 0 ((width + 7) / 8))

  module _ (height : ℕ) (same : (h v : ℕ) → h < width → v < height → f (at h v) ≡ g (at h v)) where
    p1_same : p1 width height f ≡ p1 width height g
    unfolding p1
    p1_same = ap (λ rows. head_text (codes "P1") width height ++ rows)
        (flat_map_same (row_text width f) (row_text width g) 0 height (λ v less. text_same v (λ h left. same h v left (omega arith))))

    p4_same : p4 width height f ≡ p4 width height g
    unfolding p4
    p4_same = ap (λ rows. head_text (codes "P4") width height ++ rows)
        (flat_map_same (row_bytes width f) (row_bytes width g) 0 height (λ v less. bytes_same v (λ h left. same h v left (omega arith))))

    shown_same : (raw : Bool) → image_shown raw width height f ≡ image_shown raw width height g
    shown_same true = p4_same
    shown_same false = p1_same

-- ---- the screen

-- a pixel of its sides is on a map
on_sides : (m : Bits) (h v : ℕ) → h < m.width → v < m.height → on_map m (at h v) ≡ true
unfolding on_map
on_sides m h v left above =
    let across : nat_lt h m.width ≡ true = grind (arith, nat_tests) in
    let down : nat_lt v m.height ≡ true = grind (arith, nat_tests) in
    λ i. across i && down i

-- the image of a map that shows the screen was written
pub screen_answered : {X : Type 0} (raw : Bool) (s : ToolboxState) (m : Bits) (old new : Output) (r : Result X Refusal)
    → m.width ≡ nat_abs s.desk.windows.desk.width → m.height ≡ nat_abs s.desk.windows.desk.height → ((p : Point) → on_map m p ≡ true → bit m p ≡ screen_of s p)
    → Sends old new r (image_shown raw m.width m.height (bit m)) → IsAnswered raw s Image s old new r
screen_answered raw s m old new r wide high shown sent =
    let pixels : image_shown raw m.width m.height (bit m) ≡ image_shown raw m.width m.height (screen_of s) =
    shown_same (bit m) (screen_of s) m.width m.height (λ h v left above. shown (at h v) (on_sides m h v left above)) raw in
    let sides : image_shown raw m.width m.height (screen_of s) ≡ image_text raw s = λ i. image_shown raw (wide i) (high i) (screen_of s) in
    (image_text raw s, (refl, refl), subst (Sends old new r) (pixels ∙ sides) sent)
