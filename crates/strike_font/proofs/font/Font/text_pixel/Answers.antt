use Rattle.std.proofs.Common.{◌≡◌, ◌∙◌, sym, rules}
use Rattle.std.proofs.lemmas.Int.{to_z-of_z}
use Rattle.strike_font.specs.Text.{text_holds}
use Rattle.strike_font.proofs.TextLemmas.{text-to, text-from}
use Rattle.strike_font.proofs.font.Font.text_pixel.Goals as goal

pub returns-clause-drawn : goal.returns-clause-drawn
returns-clause-drawn c =
    let e : c.text_pixel.result ≡ text_holds c.args.self.now c.args.text.now c.args.pen c.args.point = search (rules, to_z-of_z) in (
      λ t. text-to c.args.self.now c.args.text.now c.args.pen c.args.point (sym e ∙ t),
      λ f. e ∙ text-from c.args.self.now c.args.text.now c.args.pen c.args.point f,
    )
