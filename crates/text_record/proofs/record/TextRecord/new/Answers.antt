use Rattle.std.proofs.Common.{◌≡◌, true, ap, sym, arith, rules, length, SFits, w32, subst, ℕ}
use Rattle.std.proofs.lemmas.Int.{to_z-of_z}
use Rattle.text_record.specs.Placings.{is_placing, IsPlacing}
use Rattle.text_record.specs.Texts.{Lined}
use Rattle.text_record.proofs.PlacingLemmas.{placing_numbers}
use Rattle.text_record.proofs.record.TextRecord.new.Goals as goal

pub invariant_of-result : goal.invariant_of-result
invariant_of-result c =
    let p = c.args.placing in
    let text = c.in_ok-text.text in
    let left : SFits w32 p.left = search rules in
    let top : SFits w32 p.top = search rules in
    let allowed : is_placing c.args.framed p ≡ true = search rules in
    let none : length text.bytes ≡ 0 = ap (λ (t : Lined). length t.bytes) c.in_ok-text.ensures in
    let wide : text.width ≡ p.width = ap (λ (t : Lined). t.width) c.in_ok-text.ensures in
    let numbers : IsPlacing p.left p.top text.width p.view = subst (λ (w : ℕ). IsPlacing p.left p.top w p.view) (sym wide) (placing_numbers c.args.framed p allowed) in
    record {
      order = omega arith;
      within = omega arith;
      short = omega (arith, none);
      placing = simp to_z-of_z numbers;
      ascent_to = omega arith;
      height_from = omega arith;
      height_to = omega arith;
    }
