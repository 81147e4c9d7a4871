-- Sources, and the place of a pixel in them.
use Rattle.std.proofs.Common.{◌≡◌, ℕ, ◌<◌, ◌-◌, min, ◌≤◌, ◌/◌, ◌^◌, nat_lt, cond, ℤ, pos, negsuc, nat_abs, ◌+ℤ◌, ◌<ℤ◌, ◌-ℤ◌, Bool, true, false, ◌&&◌, refl, sym, ap, ◌∙◌, arith, w32}
use Rattle.std.specs.Int.{saturate_signed}
use Rattle.std.proofs.lemmas.Int.{ints, clamps}
use Rattle.std.proofs.lemmas.Bool.Decides.{nat_tests}
use Rattle.std.proofs.lemmas.Bool.{and_parts}
use Rattle.tb_geom.specs.declared.point.Point.{Point}
use Rattle.tb_geom.specs.Points.{PixelSet, minus}
use Rattle.tb_geom.specs.Rects.{between}
use Rattle.bit_map.specs.Bits.{Bits, is_below, on_map}
use Rattle.bit_map.specs.Images.{Image, image_holds}
use Rattle.bit_map.specs.Rules.{right_of}
use Rattle.bit_map.specs.Words.{bit_in}
use Rattle.bit_map.proofs.WordLemmas.{bit_in-right}
use Rattle.bit_blit.specs.Sources.{IsNearSource}

below-near : (limit : ℕ) (x : ℤ) → limit ≤ 65535 → is_below limit x ≡ true → between (pos 0) x (pos 65535) ≡ true
below-near limit (pos n) l e = grind (arith, ints, nat_tests)
below-near limit (negsuc n) l e = absurd (cc)

-- images are sources
pub image-near : (i : Image) → i.width ≤ 65535 → i.height ≤ 65535 → IsNearSource (image_holds i)
unfolding image_holds
image-near i w h p e =
    let t = and_parts (is_below i.width p.h) (is_below i.height p.v) e in
    (λ k. below-near i.width p.h w t.0 k && below-near i.height p.v h t.1 k)

-- and so are maps
pub map-near : (m : Bits) → m.width ≤ 32767 → m.height ≤ 32767 → IsNearSource (on_map m)
unfolding on_map
map-near m w h p e =
    let t = and_parts (is_below m.width p.h) (is_below m.height p.v) e in
    (λ k. below-near m.width p.h (omega (arith, w)) t.0 k && below-near m.height p.v (omega (arith, h)) t.1 k)

-- a difference that stops at the ends of 32 bits is the difference where it is near, and where the difference is
near-is : (x : ℤ) → between (pos 0) (saturate_signed w32 x) (pos 65535) ≡ true → saturate_signed w32 x ≡ x
near-is x e = grind (arith, ints, clamps)

is-near : (x : ℤ) → between (pos 0) x (pos 65535) ≡ true → saturate_signed w32 x ≡ x
is-near x e = grind (arith, ints, clamps)

-- the point as seen from the origin, where each number stops at the ends of 32 bits
abbrev pub stopped : Point → Point → Point
stopped p o = record { h = saturate_signed w32 (p.h -ℤ o.h); v = saturate_signed w32 (p.v -ℤ o.v) }

-- no source has a pixel at which one of the numbers stopped
pub stopped-same : (p o : Point) (s : PixelSet) → IsNearSource s → (s (stopped p o) ≡ s (minus p o)) × (s (stopped p o) ≡ true → stopped p o ≡ minus p o)
stopped-same p o s near = (by_test (s (stopped p o)) (s (minus p o)) refl refl, here)
  where
    here : s (stopped p o) ≡ true → stopped p o ≡ minus p o
    here e =
        let t = and_parts (between (pos 0) (saturate_signed w32 (p.h -ℤ o.h)) (pos 65535)) (between (pos 0) (saturate_signed w32 (p.v -ℤ o.v)) (pos 65535)) (near (stopped p o) e) in
        λ i. record { h = near-is (p.h -ℤ o.h) t.0 i; v = near-is (p.v -ℤ o.v) t.1 i }

    there : s (minus p o) ≡ true → stopped p o ≡ minus p o
    there e =
        let t = and_parts (between (pos 0) (p.h -ℤ o.h) (pos 65535)) (between (pos 0) (p.v -ℤ o.v) (pos 65535)) (near (minus p o) e) in
        λ i. record { h = is-near (p.h -ℤ o.h) t.0 i; v = is-near (p.v -ℤ o.v) t.1 i }

    by_test : (a b : Bool) → s (stopped p o) ≡ a → s (minus p o) ≡ b → s (stopped p o) ≡ s (minus p o)
    by_test true b e f = ap s (here e)
    by_test false true e f = ap s (there f)
    by_test false false e f = e ∙ sym f

-- points with the same numbers
pub same_point : (a b : Point) → a.h ≡ b.h → a.v ≡ b.v → a ≡ b
same_point a b h v = λ i. record { h = h i; v = v i }

-- ---- 64 pixels of a row

row-near-is : (x : ℤ) (k : ℕ) → k < 64 → between (pos 0) (saturate_signed w32 x +ℤ pos k) (pos 65535) ≡ true → saturate_signed w32 x ≡ x
row-near-is x k low e = grind (arith, ints, clamps)

row-is-near : (x : ℤ) (k : ℕ) → k < 64 → between (pos 0) (x +ℤ pos k) (pos 65535) ≡ true → saturate_signed w32 x ≡ x
row-is-near x k low e = grind (arith, ints, clamps)

seen-turn : (x o : ℤ) (k : ℕ) → ((x +ℤ pos k) -ℤ o) ≡ ((x -ℤ o) +ℤ pos k)
seen-turn x o k = omega (arith, ints)

-- no source has a pixel right of one at which one of the numbers stopped
pub stopped-row : (p o : Point) (s : PixelSet) → IsNearSource s → (k : ℕ) → k < 64 → (s (right_of (stopped p o) k) ≡ s (minus (right_of p k) o)) × (s (right_of (stopped p o) k) ≡ true → right_of (stopped p o) k ≡ minus (right_of p k) o)
stopped-row p o s near k low = (by_test (s (right_of (stopped p o) k)) (s (minus (right_of p k) o)) refl refl, here)
  where
    here : s (right_of (stopped p o) k) ≡ true → right_of (stopped p o) k ≡ minus (right_of p k) o
    here e =
        let t = and_parts (between (pos 0) (saturate_signed w32 (p.h -ℤ o.h) +ℤ pos k) (pos 65535)) (between (pos 0) (saturate_signed w32 (p.v -ℤ o.v)) (pos 65535)) (near (right_of (stopped p o) k) e) in
        let h = ap (λ x. x +ℤ pos k) (row-near-is (p.h -ℤ o.h) k low t.0) ∙ sym (seen-turn p.h o.h k) in
        λ i. record { h = h i; v = near-is (p.v -ℤ o.v) t.1 i }

    there : s (minus (right_of p k) o) ≡ true → right_of (stopped p o) k ≡ minus (right_of p k) o
    there e =
        let t = and_parts (between (pos 0) ((p.h +ℤ pos k) -ℤ o.h) (pos 65535)) (between (pos 0) (p.v -ℤ o.v) (pos 65535)) (near (minus (right_of p k) o) e) in
        let across : between (pos 0) ((p.h -ℤ o.h) +ℤ pos k) (pos 65535) ≡ true = ap (λ x. between (pos 0) x (pos 65535)) (sym (seen-turn p.h o.h k)) ∙ t.0 in
        let h = ap (λ x. x +ℤ pos k) (row-is-near (p.h -ℤ o.h) k low across) ∙ sym (seen-turn p.h o.h k) in
        λ i. record { h = h i; v = is-near (p.v -ℤ o.v) t.1 i }

    by_test : (a b : Bool) → s (right_of (stopped p o) k) ≡ a → s (minus (right_of p k) o) ≡ b → s (right_of (stopped p o) k) ≡ s (minus (right_of p k) o)
    by_test true b e f = ap s (here e)
    by_test false true e f = ap s (there f)
    by_test false false e f = e ∙ sym f

before_none : (start : ℤ) (back k : ℕ) → start <ℤ pos 0 → back ≡ nat_abs start → k < back → (start +ℤ pos k) <ℤ pos 0
before_none (pos n) back k less is low = absurd (omega (arith, ints))
before_none (negsuc n) back k less is low = omega (arith, ints, is, low)

after_first : (start : ℤ) (back k : ℕ) → start <ℤ pos 0 → back ≡ nat_abs start → back ≤ k → (pos 0 +ℤ pos (k - back)) ≡ (start +ℤ pos k)
after_first (pos n) back k less is past = absurd (omega (arith, ints))
after_first (negsuc n) back k less is past = omega (arith, ints, is, past)

-- no source has a pixel in a column before the first
none-before : (s : PixelSet) (p : Point) → IsNearSource s → p.h <ℤ pos 0 → s p ≡ false
none-before s p near less = by_test (s p) refl
  where
    by_test : (t : Bool) → s p ≡ t → t ≡ false
    by_test false e = refl
    by_test true e =
        let t = and_parts (between (pos 0) p.h (pos 65535)) (between (pos 0) p.v (pos 65535)) (near p e) in
        let inside = t.0 in
        absurd (grind (arith, ints))

-- the bits of 64 pixels from a column before the first on, of those from the first on
pub shifted_word : (has bits : PixelSet) (start : Point) (back word : ℕ) → IsNearSource has → start.h <ℤ pos 0 → back ≡ min (nat_abs start.h) 63
    → ((k : ℕ) → k < 64 → has (right_of (record { h = pos 0; v = start.v }) k) ≡ true → bit_in word k ≡ bits (right_of (record { h = pos 0; v = start.v }) k))
    → (k : ℕ) → k < 64 → has (right_of start k) ≡ true → bit_in (word / 2 ^ back) k ≡ bits (right_of start k)
shifted_word has bits start back word near less is read k low on = by_test (nat_lt k (nat_abs start.h)) refl
  where
    by_test : (t : Bool) → nat_lt k (nat_abs start.h) ≡ t → bit_in (word / 2 ^ back) k ≡ bits (right_of start k)
    by_test true e = absurd (cc (on, none-before has (right_of start k) near (before_none start.h (nat_abs start.h) k less refl (grind (arith, nat_tests)))))
    by_test false e =
        let beyond : nat_abs start.h ≤ k = grind (arith, nat_tests) in
        let exact : back ≡ nat_abs start.h = omega (arith, is, beyond, low) in
        let past : back ≤ k = omega (arith, exact, beyond) in
        let h = after_first start.h back k less exact past in
        let same : right_of (record { h = pos 0; v = start.v }) (k - back) ≡ right_of start k = λ i. record { h = h i; v = start.v } in
        bit_in-right word back k past low ∙ read (k - back) (omega (arith, low)) (ap has same ∙ on) ∙ ap bits same

-- what a mode makes of the bits of a word where a source has them
pub copied_word : (has bits : PixelSet) (f : Bool → Bool → Bool) (q : Point) (held bit old new word : Bool) → held ≡ has q → (has q ≡ true → bit ≡ bits q) → new ≡ f bit old → word ≡ cond held new old → word ≡ cond (has q) (f (bits q) old) old
copied_word has bits f q held bit old new word is_held is_bit is_new is = is ∙ ap (λ t. cond t new old) is_held ∙ by_test (has q) refl
  where
    by_test : (t : Bool) → has q ≡ t → cond t new old ≡ cond t (f (bits q) old) old
    by_test true on = is_new ∙ ap (λ b. f b old) (is_bit on)
    by_test false off = refl
