use Rattle.std.proofs.Common.{◌<◌, ◌*◌, ◌^◌, ◌%◌, ◌∙◌, ap, rules}
use Rattle.bit_map.specs.Patterns.{bit_of}
use Rattle.bit_map.proofs.ImageLemmas.{bytes_joined, high_byte}
use Rattle.bit_map.proofs.image.bits_from.Goals as goal

pub returns : goal.returns
returns c =
    let small : c.from-last.result < 256 = search rules in
    λ k low. c.joined.ensures k low
    ∙ bytes_joined c.args.bytes.now c.args.place c.args.first c.eight_bytes.result (c.from-last.result * 2 ^ 56 % 2 ^ 64) k c.requires.first_in low c.eight_bytes.ensures
    (λ j l. high_byte c.from-last.result j small l ∙ ap (λ n. bit_of n j) (c.from-last.ensures ∙ c.byte.ensures))
