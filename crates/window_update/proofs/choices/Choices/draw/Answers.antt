use Rattle.desk_call.specs.declared.update.LayerKind.TheVariants.{Picture, Texts, Lists, Controls}
use Rattle.window_update.proofs.ChoiceLemmas.{others_kept}
use Rattle.window_update.proofs.choices.Choices.draw.Goals as goal
use Rattle.window_update.proofs.choices.Choices.draw.Goals.{in-Picture, in-Texts, in-Lists, in-Controls}

pub returns-clause-others : goal.returns-clause-others
returns-clause-others c =
    elim c.match-kind.branch [
      | in-Picture w ↦ others_kept c.args.kind Picture c.args.self.now c.match-kind.self c.take.new.self w.in-Picture.is w.self-is c.take.ensures.others
      | in-Texts w ↦ others_kept c.args.kind Texts c.args.self.now c.match-kind.self c.take.new.self w.in-Texts.is w.self-is c.take.ensures.others
      | in-Lists w ↦ others_kept c.args.kind Lists c.args.self.now c.match-kind.self c.take.new.self w.in-Lists.is w.self-is c.take.ensures.others
      | in-Controls w ↦ others_kept c.args.kind Controls c.args.self.now c.match-kind.self c.take.new.self w.in-Controls.is w.self-is c.take.ensures.others
    ]
