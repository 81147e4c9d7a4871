use Rattle.std.proofs.Common.{◌≡◌, ◌∙◌, ◌+◌, ◌*◌, ◌/◌, ◌%◌, get_or, SFits, w32, ap, false, rules}
use Rattle.bit_map.specs.Bits.{is_below}
use Rattle.std.proofs.lemmas.Int.{to_z-of_z}
use Rattle.bit_map.specs.Images.{Image}
use Rattle.bit_map.specs.Patterns.{bit_of}
use Rattle.bit_map.specs.Rules.{right_of}
use Rattle.bit_map.proofs.ImageLemmas.{image_row_off, image_word}
use Rattle.bit_map.proofs.image.BitImage.word.Goals as goal

pub returns-then-is_below : goal.returns-then-is_below
returns-then-is_below c =
    let fits_h : SFits w32 c.args.start.h = search rules in
    let fits_v : SFits w32 c.args.start.v = search rules in
    let column = simp to_z-of_z at c.unsigned_abs-column.ensures.value in
    let row = simp to_z-of_z at c.unsigned_abs-row.ensures.value in
    let rows : c.self.inside.rows.now ≡ c.args.self.now.rows = ap (λ (i : Image). i.rows) c.self.view_is in
    let width : c.from.result ≡ c.args.self.now.width = c.from.ensures ∙ ap (λ (i : Image). i.width) c.self.view_is in
    λ k low on. c.bits_from.ensures k low
    ∙ (λ i. bit_of (get_or (rows i) (row i * ((width i + 7) / 8) + column i / 8 + (column i % 8 + k) / 8) 0) ((column i % 8 + k) % 8))
    ∙ image_word c.args.self.now c.args.start k c.requires

pub returns-else-is_below : goal.returns-else-is_below
returns-else-is_below c =
    let off : is_below c.args.self.now.height c.args.start.v ≡ false = search rules in
    λ k low on. absurd (cc (on, image_row_off c.args.self.now (right_of c.args.start k) off))
