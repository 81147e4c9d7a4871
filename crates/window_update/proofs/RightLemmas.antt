-- Whether maps agree, pixel by pixel and span by span.
use Rattle.std.proofs.Common.{◌≡◌, Bool, true, false, ◌&&◌, ◌||◌, List, [], ◌∷◌, ◌++◌, ℤ, pos, ◌+ℤ◌, refl, sym, ◌∙◌, subst, arith}
use Rattle.std.proofs.lemmas.Bool.{and_parts}
use Rattle.std.proofs.lemmas.Int.{ints}
use Rattle.std.proofs.lemmas.List.Folds.{list_any-append}
use Rattle.tb_geom.specs.declared.point.Point.{Point}
use Rattle.tb_geom.specs.Points.{PixelSet}
use Rattle.region_bytes.specs.Edges.{differ}
use Rattle.bit_map.specs.Bits.{Bits, bit}
use Rattle.bit_blit.specs.Draws.{in_row}
use Rattle.bit_blit.proofs.SpansLemmas.{spans_hold}
use Rattle.scan_region.specs.declared.spans.Span.{Span}
use Rattle.scan_region.specs.Scan.{IsScanOf, span_holds}

-- the maps have the same bits in what of the row lies in the set
abbrev pub AgreeIn : Bits → Bits → PixelSet → PixelSet → Type 0
AgreeIn m n row set = (p : Point) → (row p && set p) ≡ true → bit m p ≡ bit n p

-- bits that do not differ are the same
no_difference : (a b : Bool) → differ a b ≡ false → a ≡ b
no_difference true true e = refl
no_difference true false e = absurd (cc)
no_difference false true e = absurd (cc)
no_difference false false e = refl

a_difference : (a b : Bool) → differ a b ≡ true → a ≡ b → ⊥
a_difference true true e same = absurd (cc)
a_difference true false e same = absurd (cc)
a_difference false true e same = absurd (cc)
a_difference false false e same = absurd (cc)

-- a pixel in a set where the bits do not both differ and lie in the set
same_there : (a b within : Bool) → (differ a b && within) ≡ false → within ≡ true → a ≡ b
same_there a b true e is = no_difference a b (sym (and_true (differ a b)) ∙ e)
  where
    and_true : (c : Bool) → (c && true) ≡ c
    and_true true = refl
    and_true false = refl
same_there a b false e is = absurd (cc)

-- the pixel that a row gains
last_h : (v left h : ℤ) (p : Point) → in_row v left (h +ℤ pos 1) p ≡ true → in_row v left h p ≡ false → p.h ≡ h
last_h v left h p e f = grind (arith, ints)

last_v : (v left h : ℤ) (p : Point) → in_row v left (h +ℤ pos 1) p ≡ true → v ≡ p.v
last_v v left h p e = grind (arith, ints)

pub agree_step : (m n : Bits) (set : PixelSet) (v left h : ℤ) → AgreeIn m n (in_row v left h) set → (differ (bit m (record { h = h; v = v })) (bit n (record { h = h; v = v })) && set (record { h = h; v = v })) ≡ false → AgreeIn m n (in_row v left (h +ℤ pos 1)) set
agree_step m n set v left h before here p e = by_test (in_row v left h p) refl
  where
    parts : (in_row v left (h +ℤ pos 1) p ≡ true) × (set p ≡ true)
    parts = and_parts (in_row v left (h +ℤ pos 1) p) (set p) e

    by_test : (b : Bool) → in_row v left h p ≡ b → bit m p ≡ bit n p
    by_test true row = before p (λ i. row i && parts.1 i)
    by_test false row =
        let at : record { h = h; v = v } ≡ p = λ i. record { h = sym (last_h v left h p parts.0 row) i; v = last_v v left h p parts.0 i } in
        let here_p = subst (λ q. (differ (bit m q) (bit n q) && set q) ≡ false) at here in
        same_there (bit m p) (bit n p) (set p) here_p parts.1

-- a pixel in which they differ
pub differ_there : (m n : Bits) (row set : PixelSet) (p : Point) → row p ≡ true → (differ (bit m p) (bit n p) && set p) ≡ true → (q : Point) × ((row q && set q) ≡ true) × (bit m q ≡ bit n q → ⊥)
differ_there m n row set p on e =
    let parts = and_parts (differ (bit m p) (bit n p)) (set p) e in
    (p, (λ i. on i && parts.1 i), a_difference (bit m p) (bit n p) parts.0)

-- ---- spans

or_cases : {P : Type 0} (a b : Bool) → (a ≡ true → P) → (b ≡ true → P) → (a || b) ≡ true → P
or_cases true b f g e = f refl
or_cases false b f g e = g e

none_more : (b : Bool) → (b || false) ≡ true → b ≡ true
none_more true e = refl
none_more false e = absurd (cc)

-- one more span
pub spans_agree : (m n : Bits) (set : PixelSet) (before : List Span) (span : Span) → AgreeIn m n (spans_hold before) set → AgreeIn m n (span_holds span) set → AgreeIn m n (spans_hold (before ++ span ∷ [])) set
spans_agree m n set before span first second p e =
    let parts = and_parts (spans_hold (before ++ span ∷ []) p) (set p) e in
    or_cases (spans_hold before p) (span_holds span p || false) (λ (b : spans_hold before p ≡ true). first p (λ i. b i && parts.1 i)) (λ (s : (span_holds span p || false) ≡ true). second p (λ i. none_more (span_holds span p) s i && parts.1 i))
    (sym (list_any-append (λ s. span_holds s p) before (span ∷ [])) ∙ parts.0)

-- a pixel of a set's span in which they differ is one of the set
pub span_differs : (m n : Bits) (set all : PixelSet) (before : List Span) (span : Span) (rest after : List Span) → rest ≡ span ∷ after → IsScanOf (before ++ rest) all
    → (p : Point) × ((span_holds span p && set p) ≡ true) × (bit m p ≡ bit n p → ⊥) → (p : Point) × ((all p && set p) ≡ true) × (bit m p ≡ bit n p → ⊥)
span_differs m n set all before span rest after e scan found =
    let p = found.0 in
    let parts = and_parts (span_holds span p) (set p) found.1 in
    let in_all : all p ≡ true = (subst (λ l. IsScanOf (before ++ l) all) e scan).pixels p ∙ list_any-append (λ s. span_holds s p) before (span ∷ after) ∙ middle (spans_hold before p) (span_holds span p) (spans_hold after p) parts.0 in
    (p, (λ i. in_all i && parts.1 i), found.2)
  where
    middle : (t s r : Bool) → s ≡ true → (t || (s || r)) ≡ true
    middle true s r e = refl
    middle false true r e = refl
    middle false false r e = absurd (cc)
