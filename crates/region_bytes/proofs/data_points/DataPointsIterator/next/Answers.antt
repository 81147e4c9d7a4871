use Rattle.std.proofs.Common.{◌≡◌, pos, sym, ◌∙◌, ap, arith, rules, ◌∷◌, [], length, get_or, true, false, SFits, w32, to_z, of_z}
use Rattle.std.specs.Int.{from_be_bytes, cast_signed, w16}
use Rattle.std.proofs.lemmas.Int.{ints, to_z-of_z}
use Rattle.region_bytes.specs.Scan.{points_in}
use Rattle.region_bytes.proofs.PointLemmas.{split, no_points, row_begins, row_ends, point_comes}
use Rattle.region_bytes.proofs.data_points.DataPointsIterator.next.Goals as goal

pub returns-in_default-clause-steps : goal.returns-in_default-clause-steps
returns-in_default-clause-steps c =
    let s = c.words.self-inside in
    let none = no_points s.within s.v s.rest.now c.in_default.len_below in
    (sym c.words.invariant ∙ none, none)

pub words-preserved-then-not-self : goal.words-preserved-then-not-self
words-preserved-then-not-self c =
    let s = c.words.self-inside in
    let rest = s.rest.now in
    let fits : SFits w32 c.from-word.result = search rules in
    let fits_16 : SFits w16 c.from_be_bytes.result = search rules in
    let word : to_z w32 (of_z w32 c.from-word.result) ≡ cast_signed w16 (from_be_bytes w16 (get_or rest 0 0 ∷ get_or rest 1 0 ∷ [])) =
    to_z-of_z w32 c.from-word.result fits ∙ c.from-word.ensures ∙ to_z-of_z w16 c.from_be_bytes.result fits_16 ∙ c.from_be_bytes.ensures in
    let out : s.within ≡ false = search rules in
    row_begins s.within s.v _ _ out ∙ ap (points_in s.within s.v) (split rest _ word c.in-len2-up.len_at_least) ∙ c.words.invariant

pub words-preserved : goal.words-preserved
words-preserved c =
    let s = c.words.self-inside in
    let rest = s.rest.now in
    let fits : SFits w32 c.from-word.result = search rules in
    let fits_16 : SFits w16 c.from_be_bytes.result = search rules in
    let word : c.from-word.result ≡ cast_signed w16 (from_be_bytes w16 (get_or rest 0 0 ∷ get_or rest 1 0 ∷ [])) =
    c.from-word.ensures ∙ to_z-of_z w16 c.from_be_bytes.result fits_16 ∙ c.from_be_bytes.ensures in
    let in_row : s.within ≡ true = search rules in
    let end : c.from-word.result ≡ pos 32767 = search (rules, ints) in
    row_ends s.within s.v c.from-word.result _ in_row end ∙ ap (points_in s.within s.v) (split rest _ word c.in-len2-up.len_at_least) ∙ c.words.invariant

pub returns-in-words-clause-steps : goal.returns-in-words-clause-steps
returns-in-words-clause-steps c =
    let s = c.words.self-inside in
    let rest = s.rest.now in
    let fits : SFits w32 c.from-word.result = search rules in
    let fits_v : SFits w32 s.v = search rules in
    let fits_16 : SFits w16 c.from_be_bytes.result = search rules in
    let word : c.from-word.result ≡ cast_signed w16 (from_be_bytes w16 (get_or rest 0 0 ∷ get_or rest 1 0 ∷ [])) =
    c.from-word.ensures ∙ to_z-of_z w16 c.from_be_bytes.result fits_16 ∙ c.from_be_bytes.ensures in
    let in_row : s.within ≡ true = search rules in
    let column : c.from-word.result ≡ pos 32767 → ⊥ = search (rules, ints) in
    simp to_z-of_z (sym c.words.invariant ∙ sym (ap (points_in s.within s.v) (split rest _ word c.in-len2-up.len_at_least)) ∙ point_comes s.within s.v c.from-word.result _ in_row column)

pub returns-in-words-clause-goes : goal.returns-in-words-clause-goes
returns-in-words-clause-goes c =
    let step = returns-in-words-clause-steps c in
    let longer = ap length step in
    record { on = λ _. (tt, tt, omega (arith, longer)); keeps = tt; rests = λ _. tt }
