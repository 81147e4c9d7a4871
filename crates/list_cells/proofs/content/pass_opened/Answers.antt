use Rattle.list_cells.proofs.RowLemmas.{passes_open}
use Rattle.list_cells.proofs.content.pass_opened.Goals as goal

pub returns-clause-items : goal.returns-clause-items
returns-clause-items c = passes_open c.args.contents.now.items c.rotate_left.new.self.items c.append_empty.new.contents.items c.rotate_left-2.new.self.items
    c.args.width c.args.at c.args.count c.requires.place c.requires.within c.rotate_left.ensures.items c.append_empty.ensures.items c.rotate_left-2.ensures.items
