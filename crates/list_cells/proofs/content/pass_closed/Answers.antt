use Rattle.std.proofs.Common.{ap, ◌∙◌, take, ◌-◌}
use Rattle.list_cells.proofs.RowLemmas.{passes_closed}
use Rattle.list_cells.proofs.content.pass_closed.Goals as goal

pub returns-clause-items : goal.returns-clause-items
returns-clause-items c = passes_closed c.args.contents.now.items c.rotate_left.new.self.items c.rotate_left-2.new.self.items c.truncate.new.self.items c.rotate_left-3.new.self.items
    c.args.width c.args.at c.args.count c.requires.place c.requires.within c.rotate_left.ensures.items c.rotate_left-2.ensures.items
    (c.truncate.ensures.items ∙ ap (λ n. take (n - c.args.count) c.rotate_left-2.new.self.items) (c.len.ensures ∙ c.rotate_left-2.new.self.ok.0)) c.rotate_left-3.ensures.items
