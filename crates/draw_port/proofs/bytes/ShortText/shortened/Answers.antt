use Rattle.std.proofs.Common.{ap, ◌∙◌, take}
use Rattle.std.proofs.lemmas.List.{take_min}
use Rattle.draw_port.proofs.bytes.ShortText.shortened.Goals as goal

pub returns : goal.returns
returns c =
    let characters = c.args.characters.now in
    (rw c.unwrap.ensures at c.new.ensures).0 ∙ ap (λ n. take n characters) c.min.ensures ∙ take_min 255 characters
