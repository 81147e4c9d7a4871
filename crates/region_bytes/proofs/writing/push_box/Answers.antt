use Rattle.std.proofs.Common.{◌∙◌, ◌++◌, sym, ap, SFits, w32, rules}
use Rattle.std.specs.List.{flat_map}
use Rattle.std.proofs.lemmas.Int.{to_z-of_z}
use Rattle.std.proofs.lemmas.Result.{on_ok_weaker}
use Rattle.region_bytes.specs.Words.{word_bytes}
use Rattle.region_bytes.proofs.Written.{box_words-unwrapped, four_pieces}
use Rattle.region_bytes.proofs.writing.push_box.Goals as goal

pub returns : goal.returns
returns c =
    let r = c.unwrap_or-bounds.result in
    let ft : SFits w32 r.top = search rules in
    let fl : SFits w32 r.left = search rules in
    let fb : SFits w32 r.bottom = search rules in
    let fr : SFits w32 r.right = search rules in
    let one = simp to_z-of_z at c.in_ok-push_word.ensures in
    let two = simp (to_z-of_z, one) at c.in_ok-push_word-2.ensures in
    let three = simp (to_z-of_z, two) at c.in_ok-push_word-3.ensures in
    let four = simp (to_z-of_z, three) at c.push_word-4.ensures in
    on_ok_weaker c.push_word-4.result
    (λ e. e ∙ four_pieces c.args.bytes.now.items (word_bytes r.top) (word_bytes r.left) (word_bytes r.bottom) (word_bytes r.right)
    ∙ sym (ap (λ ws. c.args.bytes.now.items ++ flat_map word_bytes ws) (box_words-unwrapped c.args.bounds r c.unwrap_or-bounds.ensures)))
    four
