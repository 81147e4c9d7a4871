use Rattle.std.proofs.Common.{◌<◌, ◌∙◌, ◌-ℤ◌, ◌+ℤ◌, pos, ap, SFits, w32, rules}
use Rattle.std.proofs.lemmas.Int.{ints, to_z-of_z}
use Rattle.strike_font.specs.Record.{signed}
use Rattle.strike_font.proofs.TileLemmas.{in_text_rect}
use Rattle.strike_font.proofs.text.text_rect.Goals as goal

pub returns : goal.returns
returns c =
    let font = c.requires.font in
    let fs : SFits w32 c.signed.result = search rules in
    let fr : SFits w32 c.reach.result = search rules in
    let fu : SFits w32 c.from-top.result = search rules in
    let ft : SFits w32 c.from.result = search rules in
    let up : c.word.result < 65536 = search rules in
    let tall : c.word-3.result < 65536 = search rules in
    let is_up = c.from-top.ensures in
    let is_tall = c.from.ensures in
    let fn : SFits w32 (pos 0 -ℤ c.from-top.result) = search (rules, ints) in
    let fb : SFits w32 (pos 0 -ℤ c.from-top.result +ℤ c.from.result) = search (rules, ints) in
    simp to_z-of_z (λ pen p held. in_text_rect c.args.bytes.now c.args.text.now pen p c.signed.result c.reach.result c.word.result c.word-3.result (pos 0 -ℤ c.from-top.result) (pos 0 -ℤ c.from-top.result +ℤ c.from.result)
    (c.signed.ensures ∙ ap signed c.word-2.ensures) c.word.ensures c.word-3.ensures (ap (λ x. pos 0 -ℤ x) is_up) (ap (λ x. pos 0 -ℤ c.from-top.result +ℤ x) is_tall) c.reach.ensures held)
