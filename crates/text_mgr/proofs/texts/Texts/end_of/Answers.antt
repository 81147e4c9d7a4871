use Rattle.std.proofs.Common.{refl}
use Rattle.window_items.proofs.YoungestLemmas.{fewer}
use Rattle.text_mgr.proofs.Left.{all_left, leaving_begins, leaving_goes_on}
use Rattle.text_mgr.proofs.texts.Texts.end_of.Goals as goal

pub loop-ended-init : goal.loop-ended-init
loop-ended-init c = leaving_begins c.args.window c.args.self.now

pub loop-ended-smaller : goal.loop-ended-smaller
loop-ended-smaller c = fewer c.args.window c.loop-ended.self.list.items.items c.in-Some._ended c.take_of.new.self.items.items c.in-Some.ensures.value c.in-Some.ensures.items

pub loop-ended-preserved : goal.loop-ended-preserved
loop-ended-preserved c =
    leaving_goes_on c.args.window c.args.self.now c.loop-ended.self _ c.loop-ended.invariant c.in-Some.ensures.items c.in-Some.ensures.next refl c.in-Some._ended c.in-Some.ensures.value

pub returns : goal.returns
returns c = all_left c.args.window c.args.self.now c.loop-ended.self _ c.loop-ended.invariant c.in_default.ensures.items c.in_default.ensures.next refl c.in_default.ensures.value
