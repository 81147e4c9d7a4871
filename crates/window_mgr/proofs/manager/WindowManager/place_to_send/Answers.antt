use Rattle.window_mgr.proofs.Sending as sending
use Rattle.window_mgr.proofs.manager.WindowManager.place_to_send.Goals as goal

pub returns-in_default : goal.returns-in_default
returns-in_default g c = sending.last_of_all _ c.args.self.now c.requires.kept c.args.sent c.args.at c.requires.at c.in_default.is c.at-found.result.now c.at-found.ensures _ c.class_back.ensures.place c.class_back.ensures.low

pub returns-in_default-find : goal.returns-in_default-find
returns-in_default-find g c = sending.missing _ c.args.self.now c.requires.kept c.args.sent c.args.at c.requires.at c.in-Some.front c.in-Some.is c.in_default-find.ensures

pub returns-then-front-sent : goal.returns-then-front-sent
returns-then-front-sent g c = sending.itself _ c.args.self.now c.requires.kept c.args.sent c.args.at c.requires.at c.in-Some.front c.in-Some-find.there c.in-Some.is c.in-Some-find.ensures c.if-front-sent.true

pub returns-then-at-found : goal.returns-then-at-found
returns-then-at-found g c =
    sending.of_another_class _ c.args.self.now c.requires.kept c.args.sent c.args.at c.requires.at c.in-Some.front c.in-Some-find.there c.in-Some.is c.in-Some-find.ensures c.if-front-sent.false
    c.at.result.now c.at-found.result.now c.at.ensures c.at-found.ensures c.if-at-found.true

pub returns-then-there-at : goal.returns-then-there-at
returns-then-there-at g c =
    sending.another _ c.args.self.now c.requires.kept c.args.sent c.args.at c.requires.at c.in-Some.front c.in-Some-find.there c.in-Some.is c.in-Some-find.ensures c.if-front-sent.false
    c.at.result.now c.at-found.result.now c.at.ensures c.at-found.ensures c.if-at-found.false _ (sending.behind_one_before c.in-Some-find.there c.args.at c.if-there-at.true)

pub returns-else-there-at : goal.returns-else-there-at
returns-else-there-at g c =
    sending.another _ c.args.self.now c.requires.kept c.args.sent c.args.at c.requires.at c.in-Some.front c.in-Some-find.there c.in-Some.is c.in-Some-find.ensures c.if-front-sent.false
    c.at.result.now c.at-found.result.now c.at.ensures c.at-found.ensures c.if-at-found.false _ (sending.behind_one_after c.in-Some-find.there c.args.at c.if-there-at.false)
