use Rattle.std.proofs.Common.{refl}
use Rattle.def_iface.specs.contracts.stock.StockStockedAll.TheImpl as stock
use Rattle.script_text.specs.Replies.{reply_text}
use Rattle.script_runner.specs.Session.{reply_shown}
use Rattle.script_runner.proofs.SameImages.{screen_answered}
use Rattle.script_runner.proofs.session.answer_on.Goals as goal

pub returns-in-Image-clause-answered : goal.returns-in-Image-clause-answered
returns-in-Image-clause-answered g c =
    let stocks = (stock.all_slots-value g.dyn-1 g.dyn-2 g.dyn-4 g.dyn-3).it c.args.stock.now in
    rw c.in-Image.is (screen_answered c.args.writer.now.raw _ c.screen.result.now _ _ c.image.result c.screen.ensures.width c.screen.ensures.height (c.screen.ensures.shown stocks) c.image.ensures.sent)

pub returns-in-Call-clause-answered : goal.returns-in-Call-clause-answered
returns-in-Call-clause-answered g c =
    rw c.in-Call.is (reply_shown c.args.writer.now.raw (reply_text c.call-answer.result), (c.call-answer.result, c.call-answer.ensures.step, refl), c.reply-in-Call.ensures.sent)
