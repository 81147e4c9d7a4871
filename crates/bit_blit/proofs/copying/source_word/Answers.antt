use Rattle.std.proofs.Common.{◌∙◌, ◌<ℤ◌, min, ap, pos, SFits, w32, rules}
use Rattle.std.proofs.lemmas.Int.{ints, to_z-of_z}
use Rattle.bit_blit.proofs.SourceLemmas.{shifted_word}
use Rattle.bit_blit.proofs.copying.source_word.Goals as goal

pub returns-then-start-lt0 : goal.returns-then-start-lt0
returns-then-start-lt0 g c =
    let fits_h : SFits w32 c.args.start.h = search rules in
    let fits_v : SFits w32 c.args.start.v = search rules in
    let less : c.args.start.h <ℤ pos 0 = search (rules, ints) in
    let back = simp to_z-of_z at c.unsigned_abs.ensures.value in
    shifted_word (g.S.Source.has c.args.source.now) (g.S.Source.bit_at c.args.source.now) c.args.start c.min.result c.word.result c.requires less (c.min.ensures ∙ ap (λ n. min n 63) back) (simp to_z-of_z at c.word.ensures)
