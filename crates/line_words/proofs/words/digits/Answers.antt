use Rattle.std.proofs.Common.{◌≡◌, ℕ, suc, ◌+◌, ◌-◌, ◌*◌, ◌^◌, ◌<◌, ◌≤◌, true, take, get_or, sym, ap, ◌∙◌, rules, arith, add-one}
use Rattle.std.specs.List.{list_all}
use Rattle.std.proofs.Math.Nat.{pow-le-pow_right, pow-suc}
use Rattle.std.proofs.lemmas.List.{take_all}
use Rattle.std.proofs.lemmas.List.Sums.{fold_more}
use Rattle.std.proofs.lemmas.List.Folds.{list_all_more}
use Rattle.std.proofs.lemmas.Bool.Decides.{nat_tests}
use Rattle.line_words.specs.Words.{digits_value, is_digit}
use Rattle.line_words.proofs.words.digits.Goals as goal

below_9 : (n i : ℕ) → n < 10 ^ i → i ≤ 8 → n < 100000000
below_9 n i h small = let p = pow-le-pow_right {n = 10} (omega arith) {i = i} {j = 8} small in omega (arith, p)

below_10 : (n i : ℕ) → n < 10 ^ i → i ≤ 9 → n < 1000000000
below_10 n i h small = let p = pow-le-pow_right {n = 10} (omega arith) {i = i} {j = 9} small in omega (arith, p)

pub overflow_mul-value : goal.overflow_mul-value
overflow_mul-value c = omega (arith, below_9 c.loop-b.value c.loop-b.b-index c.loop-b.invariant.small (omega arith))

pub overflow_add-value : goal.overflow_add-value
overflow_add-value c = omega (arith, below_9 c.loop-b.value c.loop-b.b-index c.loop-b.invariant.small (omega arith))

next_small : (n i d : ℕ) → n < 10 ^ i → d ≤ 9 → n * 10 + d < 10 ^ (i + 1)
next_small n i d h small = let e : 10 ^ suc i ≡ 10 ^ i * 10 = pow-suc 10 i in rw add-one (omega (arith, e))

pub loop-b-preserved : goal.loop-b-preserved
loop-b-preserved c =
    let xs = c.args.bytes.now in
    let i = c.loop-b.b-index in
    let b = get_or xs i 0 in
    let digit : c.from.result ≡ b - 48 = search rules in
    record {
      value = rw (digit, c.loop-b.invariant.value) (sym (fold_more (λ n b. n * 10 + (b - 48)) 0 xs i 0 (search rules)));
      small = next_small _ _ _ c.loop-b.invariant.small (omega arith);
      digits = list_all_more is_digit xs i 0 (search rules) ∙ grind (arith, nat_tests);
    }

pub returns : goal.returns
returns c =
    let xs = c.args.bytes.now in
    let all : take c.loop-b.b-index xs ≡ xs = take_all c.loop-b.b-index xs (search rules) in
    let value : c.loop-b.value ≡ digits_value xs = c.loop-b.invariant.value ∙ ap digits_value all in
    let digits : list_all is_digit xs ≡ true = sym (ap (list_all is_digit) all) ∙ c.loop-b.invariant.digits in
    let small = below_10 c.loop-b.value c.loop-b.b-index c.loop-b.invariant.small (omega arith) in
    grind (arith, nat_tests)
