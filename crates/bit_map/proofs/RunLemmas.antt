-- A run of pixels in one row of a map: where its bits stand, and what a rule leaves of them.
use Rattle.std.proofs.Common.{◌≡◌, ℕ, zero, suc, ◌+◌, ◌-◌, ◌*◌, ◌<◌, ◌≤◌, ◌≤ℤ◌, ◌<ℤ◌, ◌+ℤ◌, ◌-ℤ◌, ◌&&◌, SFits, w32, ℤ, pos, negsuc, nat_abs, Bool, true, false, cond, List, length, nat_lt, refl, sym, ap, ◌∙◌, ◌⊎◌, inl, inr, arith}
use Rattle.std.proofs.lemmas.Bool.Decides.{nat_tests}
use Rattle.std.proofs.lemmas.Int.{ints}
use Rattle.tb_geom.specs.declared.point.Point.{Point}
use Rattle.bit_map.specs.Bits.{Bits, is_below, on_map, bit, in_row}
use Rattle.bit_map.specs.Words.{place_bit, words_across, IsWholeMap, IsMoved}
use Rattle.std.proofs.lemmas.Nat.{mul-le}
use Rattle.std.proofs.lemmas.Bool.{and_parts}
use Rattle.tb_geom.specs.Points.{minus}
use Rattle.bit_map.specs.Rules.{right_of, IsPartRuled}
use Rattle.bit_map.proofs.PartLemmas.{IsRunOf}
use Rattle.bit_map.proofs.BitsLemmas.{IsOfWords, place_of, IsOn, is_point-is, on_map-sides, place_in, same_place, bit-on, bit-off, on_map-same}

-- the first pixel of a run
abbrev pub first_of : ℤ → ℤ → Point
first_of v left = record { h = left; v = v }

-- a run of the map, with the place of its first bit and how many there are
pub record IsRunOn (m : Bits) (words : List ℕ) (v left right : ℤ) (place count : ℕ) : Type 0 where
  pub of : IsOfWords m words
  pub rising : left <ℤ right
  pub on : (p : Point) → in_row v left right p ≡ true → on_map m p ≡ true
  pub first : place ≡ nat_abs v * (64 * words_across m.width) + nat_abs left
  pub long : pos count ≡ right -ℤ left

-- the k-th pixel of a run is one of its row
pub in_run : (v left right : ℤ) (k count : ℕ) → pos count ≡ right -ℤ left → k < count → in_row v left right (right_of (first_of v left) k) ≡ true
in_run v left right k count long low = grind (arith, ints)

-- a run of the map begins at no negative column
pub starts : (m : Bits) (v left right : ℤ) → left <ℤ right → ((p : Point) → in_row v left right p ≡ true → on_map m p ≡ true) → pos 0 ≤ℤ left
starts m v left right rising on = (on_map-sides m (first_of v left) (on (first_of v left) (grind (arith, ints)))).right

-- where the k-th pixel of a run stands
pub record IsNumbered (m : Bits) (v left : ℤ) (place : ℕ) (k : ℕ) : Type 0 where
  pub at : IsOn m (right_of (first_of v left) k)
  pub number : nat_abs v * (64 * words_across m.width) + nat_abs (left +ℤ pos k) ≡ place + k

number_of : (x : ℤ) (k : ℕ) → pos 0 ≤ℤ x → nat_abs (x +ℤ pos k) ≡ nat_abs x + k
number_of (pos n) k low = refl
number_of (negsuc n) k low = absurd (omega (arith, ints))

pub numbered : (m : Bits) (words : List ℕ) (v left right : ℤ) (place count k : ℕ) → IsRunOn m words v left right place count → k < count → IsNumbered m v left place k
numbered m words v left right place count k run low =
    let at = on_map-sides m (right_of (first_of v left) k) (run.on (right_of (first_of v left) k) (in_run v left right k count run.long low)) in
    let number : nat_abs (left +ℤ pos k) ≡ nat_abs left + k = number_of left k (starts m v left right run.rising run.on) in
    record { at = at; number = omega (arith, number, run.first) }

-- the bits of a run stand in the words
pub fits_in : (m : Bits) (words : List ℕ) (v left right : ℤ) (place count : ℕ) → IsRunOn m words v left right place count → place + count ≤ 64 * length words
fits_in m words v left right place count run = by_count count refl
  where
    by_count : (c : ℕ) → count ≡ c → place + count ≤ 64 * length words
    by_count zero e = absurd (omega (arith, ints, run.long, run.rising, e))
    by_count (suc c) e =
        let last : c < count = omega (arith, e) in
        let n = numbered m words v left right place count c run last in
        omega (arith, e, n.number, place_in m words (right_of (first_of v left) c) run.of.whole n.at)

positive : (x : ℤ) → pos 0 ≤ℤ x → pos (nat_abs x) ≡ x
positive (pos n) l = refl
positive (negsuc n) l = absurd (omega (arith, ints))

-- a run is not longer than a map is wide, and ends before its last column
pub near_run : (m : Bits) (words : List ℕ) (v left right : ℤ) (place count : ℕ) → IsRunOn m words v left right place count → (count ≤ 32767) × ((left +ℤ pos count) ≤ℤ pos 32767)
near_run m words v left right place count run = by_count count refl
  where
    by_count : (c : ℕ) → count ≡ c → (count ≤ 32767) × ((left +ℤ pos count) ≤ℤ pos 32767)
    by_count zero e = absurd (omega (arith, ints, run.long, run.rising, e))
    by_count (suc c) e =
        let last : c < count = omega (arith, e) in
        let at = (numbered m words v left right place count c run last).at in
        let low = starts m v left right run.rising run.on in
        let number : nat_abs (left +ℤ pos c) ≡ nat_abs left + c = number_of left c low in
        let across : nat_abs left + c < 32767 = omega (arith, number, at.across, run.of.whole.across) in
        let is : pos (nat_abs left) ≡ left = positive left low in
        (omega (arith, across, e), omega (arith, ints, e, across, is))

-- there are no more words than so many
pub few_words : (width height : ℕ) (words : List ℕ) → IsWholeMap width height words → length words ≤ 16776704
few_words width height words whole =
    let across : words_across width ≤ 512 = omega (arith, whole.across) in
    omega (arith, whole.all, mul-le height (words_across width) 32767 512 whole.down across)

pub whole_after : (width height : ℕ) (old new : List ℕ) → length new ≡ length old → IsWholeMap width height old → IsWholeMap width height new
whole_after width height old new e whole = record { all = e ∙ whole.all; across = whole.across; down = whole.down }

-- a pixel of the row of a run is one of the run, so many columns from its first
record IsInRun (v left : ℤ) (count : ℕ) (p : Point) : Type 0 where
  pub k : ℕ
  pub low : k < count
  pub is : right_of (first_of v left) k ≡ p

in_run-of : (v left right : ℤ) (count : ℕ) (p : Point) → pos 0 ≤ℤ left → pos count ≡ right -ℤ left → pos 0 ≤ℤ p.h → in_row v left right p ≡ true → IsInRun v left count p
in_run-of v left right count p low long right_of_0 e =
    let number : pos (nat_abs (p.h -ℤ left)) ≡ p.h -ℤ left = grind (arith, ints) in
    let h : (left +ℤ pos (nat_abs (p.h -ℤ left))) ≡ p.h = omega (arith, ints, number) in
    let same_v : v ≡ p.v = grind (arith, ints) in
    let below : p.h <ℤ right = grind (arith, ints) in
    record { k = nat_abs (p.h -ℤ left); low = omega (arith, ints, number, below, long); is = λ i. record { h = h i; v = same_v i } }

-- ---- a run that is moved

-- each pixel of a row lies on the map, and so does its source
abbrev pub IsShiftOn : Bits → ℤ → ℤ → ℤ → Point → Type 0
IsShiftOn m v left right d = (p : Point) → in_row v left right p ≡ true → (on_map m p && on_map m (minus p d)) ≡ true

pub shift-on : (m : Bits) (v left right : ℤ) (d : Point) → IsShiftOn m v left right d → (p : Point) → in_row v left right p ≡ true → on_map m p ≡ true
shift-on m v left right d on p e = (and_parts (on_map m p) (on_map m (minus p d)) (on p e)).0

pub shift-source : (m : Bits) (v left right : ℤ) (d : Point) → IsShiftOn m v left right d → (p : Point) → in_row v left right p ≡ true → on_map m (minus p d) ≡ true
shift-source m v left right d on p e = (and_parts (on_map m p) (on_map m (minus p d)) (on p e)).1

-- the first pixel of a row is one of it
pub first_in : (v left right : ℤ) → left <ℤ right → in_row v left right (first_of v left) ≡ true
first_in v left right rising = grind (arith, ints)

-- where the source of the first pixel lies
pub source_at : (m : Bits) (v left right : ℤ) (d : Point) → left <ℤ right → IsShiftOn m v left right d → IsOn m (minus (first_of v left) d)
source_at m v left right d rising on = on_map-sides m (minus (first_of v left) d) (shift-source m v left right d on (first_of v left) (first_in v left right rising))

-- a number on a map is a number of 32 bits
pub near_number : (x : ℤ) (limit : ℕ) → pos 0 ≤ℤ x → nat_abs x < limit → limit ≤ 32767 → SFits w32 x
near_number (pos n) limit a b c = search (arith, ints)
near_number (negsuc n) limit a b c = absurd (omega (arith, ints))

-- the bit of the k-th source stands k places after that of the first
pub source_bit : (m : Bits) (words : List ℕ) (v left right : ℤ) (d : Point) (place source count k : ℕ) → IsRunOn m words v left right place count → IsShiftOn m v left right d
    → source ≡ nat_abs (v -ℤ d.v) * (64 * words_across m.width) + nat_abs (left -ℤ d.h) → k < count
    → (place_bit words (source + k) ≡ bit m (minus (right_of (first_of v left) k) d)) × (source + k < 64 * length words)
source_bit m words v left right d place source count k run on is_source low =
    let p : Point = right_of (first_of v left) k in
    let at_first = source_at m v left right d run.rising on in
    let held = shift-source m v left right d on p (in_run v left right k count run.long low) in
    let turn : (left +ℤ pos k) -ℤ d.h ≡ (left -ℤ d.h) +ℤ pos k = omega (arith, ints) in
    let number : nat_abs ((left +ℤ pos k) -ℤ d.h) ≡ nat_abs (left -ℤ d.h) + k = ap nat_abs turn ∙ number_of (left -ℤ d.h) k at_first.right in
    let at : place_of m.width (minus p d) ≡ source + k = omega (arith, number, is_source) in
    (sym (bit-on m words (minus p d) run.of held ∙ ap (place_bit words) at), omega (arith, sym at, place_in m words (minus p d) run.of.whole (on_map-sides m (minus p d) held)))

pub source_fits : (m : Bits) (words : List ℕ) (v left right : ℤ) (d : Point) (place source count : ℕ) → IsRunOn m words v left right place count → IsShiftOn m v left right d
    → source ≡ nat_abs (v -ℤ d.v) * (64 * words_across m.width) + nat_abs (left -ℤ d.h) → source + count ≤ 64 * length words
source_fits m words v left right d place source count run on is_source = by_count count refl
  where
    by_count : (c : ℕ) → count ≡ c → source + count ≤ 64 * length words
    by_count zero e = absurd (omega (arith, ints, run.long, run.rising, e))
    by_count (suc c) e = omega (arith, e, (source_bit m words v left right d place source count c run on is_source (omega (arith, e))).1)

-- a list that is the same
pub IsPartRuled-over : {value : Point → Bool → Bool} {start : Point} {place count : ℕ} {a b old new : List ℕ} → old ≡ a → new ≡ b → IsPartRuled value start place count old new → IsPartRuled value start place count a b
IsPartRuled-over {value} {start} {place} {count} e n part = rw (← e, ← n) part

-- the bits of a map after its run has become so
pub bit-run_of : (value : Point → Bool) (now : ℕ → Bool) (a b : Bits) (old new : List ℕ) (v left right : ℤ) (place count : ℕ) → IsRunOn a old v left right place count → IsOfWords b new → IsRunOf place count now old new
    → ((k : ℕ) → k < count → now k ≡ value (right_of (first_of v left) k))
    → b.width ≡ a.width → b.height ≡ a.height → (p : Point) → bit b p ≡ cond (in_row v left right p) (value p) (bit a p)
bit-run_of value now a b old new v left right place count run of_b part each width height p = by_place (on_map a p) refl
  where
    number : Point → ℕ
    number r = place_of a.width r

    not_in : (t : Bool) → in_row v left right p ≡ t → on_map a p ≡ false → t ≡ false
    not_in false e off = refl
    not_in true e off = absurd (cc (off, run.on p e))

    off : on_map a p ≡ false → bit b p ≡ cond (in_row v left right p) (value p) (bit a p)
    off e = bit-off b p (on_map-same a b p width height ∙ e) ∙ sym (bit-off a p e) ∙ ap (λ t. cond t (value p) (bit a p)) (sym (not_in (in_row v left right p) refl e))

    read : on_map a p ≡ true → bit b p ≡ place_bit new (number p)
    read e = bit-on b new p of_b (on_map-same a b p width height ∙ e) ∙ ap (λ w. place_bit new (place_of w p)) width

    here : IsInRun v left count p → on_map a p ≡ true → place_bit new (number p) ≡ value p
    here it e =
        let n = numbered a old v left right place count it.k run it.low in
        let at : number p ≡ place + it.k = ap number (sym it.is) ∙ n.number in
        ap (place_bit new) at ∙ part.run it.k it.low ∙ each it.k it.low ∙ ap value it.is

    elsewhere : (number p < place) ⊎ (place + count ≤ number p) → place_bit new (number p) ≡ place_bit old (number p)
    elsewhere (inl before) = part.before (number p) before
    elsewhere (inr after) = part.after (number p) after

    -- a pixel that stands among those of the run is one of them
    same : IsOn a p → (k : ℕ) → k < count → number p ≡ place + k → in_row v left right p ≡ true
    same at k low e =
        let n = numbered a old v left right place count k run low in
        let is : p ≡ right_of (first_of v left) k = is_point-is (right_of (first_of v left) k) p (same_place a (right_of (first_of v left) k) p n.at at (e ∙ sym n.number)) in
        ap (in_row v left right) is ∙ in_run v left right k count run.long low

    side : IsOn a p → in_row v left right p ≡ false → (number p < place) ⊎ (place + count ≤ number p)
    side at e = by_low (nat_lt (number p) place) refl
      where
        by_high : (place ≤ number p) → (t : Bool) → nat_lt (number p) (place + count) ≡ t → (number p < place) ⊎ (place + count ≤ number p)
        by_high high true l =
            let low : number p - place < count = grind (arith, nat_tests) in
            let at_k : number p ≡ place + (number p - place) = omega (arith, high) in
            absurd (cc (e, same at (number p - place) low at_k))
        by_high high false l = inr (grind (arith, nat_tests))

        by_low : (t : Bool) → nat_lt (number p) place ≡ t → (number p < place) ⊎ (place + count ≤ number p)
        by_low true l = inl (grind (arith, nat_tests))
        by_low false l = by_high (grind (arith, nat_tests)) (nat_lt (number p) (place + count)) refl

    on : on_map a p ≡ true → (t : Bool) → in_row v left right p ≡ t → bit b p ≡ cond t (value p) (bit a p)
    on e true in_it = read e ∙ here (in_run-of v left right count p (starts a v left right run.rising run.on) run.long (on_map-sides a p e).right in_it) e
    on e false out = read e ∙ elsewhere (side (on_map-sides a p e) out) ∙ sym (bit-on a old p run.of e)

    by_place : (t : Bool) → on_map a p ≡ t → bit b p ≡ cond (in_row v left right p) (value p) (bit a p)
    by_place true e = on e (in_row v left right p) refl
    by_place false e = off e

-- a run that is drawn: the bits of its pixels, and all others
pub bit-run : (value : Point → Bool → Bool) (a b : Bits) (old new : List ℕ) (v left right : ℤ) (place count : ℕ) → IsRunOn a old v left right place count → IsOfWords b new → IsPartRuled value (first_of v left) place count old new
    → b.width ≡ a.width → b.height ≡ a.height → (p : Point) → bit b p ≡ cond (in_row v left right p) (value p (bit a p)) (bit a p)
bit-run value a b old new v left right place count run of_b part width height p =
    bit-run_of (λ q. value q (bit a q)) (λ k. value (right_of (first_of v left) k) (place_bit old (place + k))) a b old new v left right place count run of_b
    (record { run = part.run; before = part.before; after = part.after })
    was width height p
  where
    was : (k : ℕ) → k < count → value (right_of (first_of v left) k) (place_bit old (place + k)) ≡ value (right_of (first_of v left) k) (bit a (right_of (first_of v left) k))
    was k low =
        let n = numbered a old v left right place count k run low in
        ap (value (right_of (first_of v left) k)) (ap (place_bit old) (sym n.number) ∙ sym (bit-on a old (right_of (first_of v left) k) run.of (run.on (right_of (first_of v left) k) (in_run v left right k count run.long low))))

-- a run that is moved: the bits of its pixels are those of their sources, and all others stay
pub bit-moved : (a b : Bits) (old new : List ℕ) (v left right : ℤ) (d : Point) (place source count : ℕ) → IsRunOn a old v left right place count → IsShiftOn a v left right d
    → source ≡ nat_abs (v -ℤ d.v) * (64 * words_across a.width) + nat_abs (left -ℤ d.h) → IsOfWords b new → IsMoved place source count old new
    → b.width ≡ a.width → b.height ≡ a.height → (p : Point) → bit b p ≡ cond (in_row v left right p) (bit a (minus p d)) (bit a p)
bit-moved a b old new v left right d place source count run on is_source of_b moved width height p =
    bit-run_of (λ q. bit a (minus q d)) (λ k. place_bit old (source + k)) a b old new v left right place count run of_b
    (record { run = moved.run; before = moved.before; after = moved.after })
    (λ k low. (source_bit a old v left right d place source count k run on is_source low).0) width height p

pub IsMoved-over : {place source count : ℕ} {a b old new : List ℕ} → old ≡ a → new ≡ b → IsMoved place source count old new → IsMoved place source count a b
IsMoved-over {place} {source} {count} e n moved = rw (← e, ← n) moved

-- ---- words that are read

-- the bits from the place of a point on are those of the pixels from the point on
pub word_on : (m : Bits) (words : List ℕ) (start : Point) (place k : ℕ) → IsOfWords m words → pos 0 ≤ℤ start.h → place ≡ nat_abs start.v * (64 * words_across m.width) + nat_abs start.h
    → on_map m (right_of start k) ≡ true → place_bit words (place + k) ≡ bit m (right_of start k)
word_on m words start place k of low is on =
    let at : place_of m.width (right_of start k) ≡ place + k = omega (arith, number_of start.h k low, is) in
    sym (bit-on m words (right_of start k) of on ∙ ap (place_bit words) at)

-- a row that the map lacks has no pixel
pub row_off : (m : Bits) (p : Point) → is_below m.height p.v ≡ false → on_map m p ≡ false
unfolding on_map
row_off m p off = ap (λ b. is_below m.width p.h && b) off ∙ none (is_below m.width p.h)
  where
    none : (a : Bool) → (a && false) ≡ false
    none true = refl
    none false = refl
