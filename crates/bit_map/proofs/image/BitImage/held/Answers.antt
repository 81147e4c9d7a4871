use Rattle.std.proofs.Common.{◌≡◌, ◌∙◌, ◌+ℤ◌, pos, SFits, w32, ap, sym, true, false, rules}
use Rattle.bit_map.specs.Bits.{is_below}
use Rattle.std.proofs.lemmas.Int.{to_z-of_z}
use Rattle.bit_map.specs.Images.{Image}
use Rattle.bit_map.specs.Rules.{right_of}
use Rattle.bit_map.proofs.ImageLemmas.{image_row_off, image_row_on}
use Rattle.bit_map.proofs.WordLemmas.{bit_in-none}
use Rattle.bit_map.proofs.image.BitImage.held.Goals as goal

pub returns-then-is_below-clause-value : goal.returns-then-is_below-clause-value
returns-then-is_below-clause-value c =
    let fits_h : SFits w32 c.args.start.h = search rules in
    let on : is_below c.args.self.now.height c.args.start.v ≡ true = search rules in
    let columns = simp to_z-of_z at c.held.ensures in
    λ k low. columns k low ∙ ap (λ (i : Image). is_below i.width (c.args.start.h +ℤ pos k)) c.self.view_is ∙ sym (image_row_on c.args.self.now (right_of c.args.start k) on)

pub returns-else-is_below-clause-value : goal.returns-else-is_below-clause-value
returns-else-is_below-clause-value c =
    let off : is_below c.args.self.now.height c.args.start.v ≡ false = search rules in
    λ k low. bit_in-none k ∙ sym (image_row_off c.args.self.now (right_of c.args.start k) off)
