use Rattle.std.proofs.Common.{◌≡◌, true, ap, sym, arith, rules, length, SFits, w32, subst, ℕ}
use Rattle.std.proofs.lemmas.Int.{to_z-of_z}
use Rattle.text_record.specs.Placings.{is_placing, IsPlacing}
use Rattle.text_record.specs.Texts.{Lined}
use Rattle.text_record.proofs.PlacingLemmas.{placing_numbers}
use Rattle.text_record.proofs.record.TextRecord.place.Goals as goal

pub invariant_of-self : goal.invariant_of-self
invariant_of-self c =
    let p = c.args.placing in
    let text = c.set_width.new.self in
    let old = c.self.invariant in
    let left : SFits w32 p.left = search rules in
    let top : SFits w32 p.top = search rules in
    let allowed : is_placing c.self.inside.framed p ≡ true = search rules in
    let same : length text.bytes ≡ length c.self.inside.text.bytes = ap (λ (t : Lined). length t.bytes) c.set_width.ensures in
    let wide : text.width ≡ p.width = ap (λ (t : Lined). t.width) c.set_width.ensures in
    let numbers : IsPlacing p.left p.top text.width p.view = subst (λ (w : ℕ). IsPlacing p.left p.top w p.view) (sym wide) (placing_numbers c.self.inside.framed p allowed) in
    record {
      order = old.order;
      within = omega (arith, same, old.within);
      short = omega (arith, same, old.short);
      placing = simp to_z-of_z numbers;
      ascent_to = old.ascent_to;
      height_from = old.height_from;
      height_to = old.height_to;
    }
