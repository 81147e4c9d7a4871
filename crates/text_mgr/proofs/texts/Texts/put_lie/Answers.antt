use Rattle.text_mgr.specs.Laying.{laid}
use Rattle.text_mgr.proofs.Written.{laid_is, may_place, written}
use Rattle.text_mgr.proofs.texts.Texts.put_lie.Goals as goal

pub returns-clause-texts : goal.returns-clause-texts
returns-clause-texts c =
    let l = c.args.lie in
    let lent = c.at_mut-record.result.now in
    let is = c.at_mut-record.ensures.value in
    written (laid l) c.args.self.now.list c.args.at lent c.place.new.self is
    (laid_is l.shown l.placing lent c.show.new.self c.place.new.self _ c.show.ensures c.place.ensures.allowed c.place.ensures.record
    (may_place l.placing c.args.self.now.list.items.items c.args.at lent c.requires.at is c.requires.may))
