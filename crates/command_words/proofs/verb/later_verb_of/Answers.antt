use Rattle.std.proofs.Common.{SFits, w32, rules, ◌∙◌}
use Rattle.std.proofs.lemmas.Int.{to_z-of_z}
use Rattle.command_words.specs.Verbs.{verbs_since_2, verbs_since_3}
use Rattle.command_words.proofs.NamedLemmas.{named-behind, named-in_front}
use Rattle.command_words.proofs.verb.later_verb_of.Goals as goal

pub returns-in-Some : goal.returns-in-Some
returns-in-Some c =
    let fits : SFits w32 c.args.version = search rules in
    let since_2 = simp to_z-of_z at c.in-Some.ensures in
    named-in_front c.args.word.now (verbs_since_2 c.args.version) (verbs_since_3 c.args.version) c.in-Some.verb since_2

pub returns-in-None : goal.returns-in-None
returns-in-None c =
    let fits : SFits w32 c.args.version = search rules in
    let since_2 = simp to_z-of_z at c.in-None.ensures in
    let since_3 = simp to_z-of_z at c.verb_since_3.ensures in
    since_3 ∙ named-behind c.args.word.now (verbs_since_2 c.args.version) (verbs_since_3 c.args.version) since_2
