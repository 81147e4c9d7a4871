use Rattle.std.proofs.Common.{◌≡◌, ◌∙◌, ◌≤◌, arith, rules, inl, inr, refl, sym, ap, length, subst, true, []}
use Rattle.std.proofs.lemmas.Result.{err_from_is_err_and}
use Rattle.region_bytes.specs.Words.{data_words, is_short, bytes_of}
use Rattle.region_bytes.proofs.Long.{not_short}
use Rattle.region_bytes.proofs.Written.{too_long, not_too_long, box_in_range, bytes_from_parts, words_of-short, words_of-long, short_from_length, length-word_bytes}
use Rattle.region_bytes.proofs.writing.RegionWriter.finish.Goals as goal
use Rattle.region_bytes.proofs.writing.RegionWriter.finish.Goals.{then-self-eq-NOTHING-via-then-self-eq-NOTHING, then-self-eq-NOTHING-via-else-self-eq-NOTHING+then-self-eq-RECTANGLE}

pub returns-then-self-gt-MOST : goal.returns-then-self-gt-MOST
returns-then-self-gt-MOST c = λ rows s canonical. inl (refl, too_long rows canonical (s.many (search rules)))

pub returns-then-self : goal.returns-then-self
returns-then-self c =
    λ rows s canonical.
    let count = s.few (search rules) in
    inr (refl, not_too_long rows canonical (omega arith))

pub with_head-requires-clause-box_in : goal.with_head-requires-clause-box_in
with_head-requires-clause-box_in c = rw c.requires.written.bounds (box_in_range c.requires.rows c.requires.in_range)

pub with_head-requires-2-clause-box_in : goal.with_head-requires-2-clause-box_in
with_head-requires-2-clause-box_in c = rw c.requires.written.bounds (box_in_range c.requires.rows c.requires.in_range)

pub with_head-requires-2-clause-fits : goal.with_head-requires-2-clause-fits
with_head-requires-2-clause-fits c =
    let s = c.requires.written in
    let few = s.few (search rules) in
    let kept = s.kept (search rules) (search rules) in
    let e = ap length (c.as_slice.ensures.value ∙ kept) in
    let n = length-word_bytes (data_words c.requires.rows) in
    omega arith

pub returns-in_err-with_head : goal.returns-in_err-with_head
returns-in_err-with_head c =
    λ rows s canonical.
    let count = s.few (search rules) in
    let p = err_from_is_err_and c.from_residual.result c.from_residual.ensures.1 in
    rw (p.1, p.2) (inr (refl, not_too_long rows canonical (omega arith)))

pub returns-in_err-with_head-2 : goal.returns-in_err-with_head-2
returns-in_err-with_head-2 c =
    λ rows s canonical.
    let count = s.few (search rules) in
    let p = err_from_is_err_and c.from_residual-in_err-with_head-2.result c.from_residual-in_err-with_head-2.ensures.1 in
    rw (p.1, p.2) (inr (refl, not_too_long rows canonical (omega arith)))

pub returns-then-self-eq-NOTHING : goal.returns-then-self-eq-NOTHING
returns-then-self-eq-NOTHING c =
    λ rows s canonical.
    let few : c.args.self.words ≡ length (data_words rows) = s.few (search rules) in
    let short : is_short rows ≡ true = elim c.then-self-eq-NOTHING.branch [
      | then-self-eq-NOTHING-via-then-self-eq-NOTHING w ↦ short_from_length rows canonical (inl (sym few ∙ search (rules, w)))
      | then-self-eq-NOTHING-via-else-self-eq-NOTHING+then-self-eq-RECTANGLE w ↦ short_from_length rows canonical (inr (sym few ∙ search (rules, w)))
    ] in
    let e : c.in_ok-with_head.field-0.items ≡ bytes_of rows = bytes_from_parts rows [] c.args.self.bounds [] _ (words_of-short rows short) s.bounds refl c.in_ok-with_head.ensures in
    (e, subst (λ b. length b ≤ 32766) (sym e) (not_too_long rows canonical (omega arith)))

pub returns : goal.returns
returns c =
    λ rows s canonical.
    let few : c.args.self.words ≡ length (data_words rows) = s.few (search rules) in
    let kept = s.kept (search rules) (search rules) in
    let e : c.in_ok-with_head-2.field-0.items ≡ bytes_of rows = bytes_from_parts rows (data_words rows) c.args.self.bounds c.as_slice.result.now _
    (words_of-long rows (not_short rows canonical (λ n. c.if-self-eq-NOTHING.false (few ∙ n)) (λ n. c.if-self-eq-RECTANGLE.false (few ∙ n))))
    s.bounds (c.as_slice.ensures.value ∙ kept) c.in_ok-with_head-2.ensures in
    (e, subst (λ b. length b ≤ 32766) (sym e) (not_too_long rows canonical (omega arith)))
