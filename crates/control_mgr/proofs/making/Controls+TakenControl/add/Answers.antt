use Rattle.std.proofs.Common.{sym, subst}
use Rattle.def_iface.specs.contracts.taken_control.TakenControlDefined.TheImpl as control
use Rattle.def_iface.specs.ControlMeaning.{IsControlBegun}
use Rattle.def_iface.specs.ControlNews.{new_control_news}
use Rattle.control_mgr.specs.Settled.{AreSettled}
use Rattle.control_mgr.proofs.Made as making
use Rattle.control_mgr.proofs.making.Controls+TakenControl.add.Goals as goal

pub begin-requires-clause-fits : goal.begin-requires-clause-fits
begin-requires-clause-fits g c =
    making.fits_begun _ (control.loan-value g.dyn-1).it c.args.new.now _ c.args.windows.now c.args.self.now c.args.addition c.requires.kept c.requires.beside c.requires.addition

pub commit_layers-requires-clause-planned : goal.commit_layers-requires-clause-planned
commit_layers-requires-clause-planned g c =
    making.planned_is _ (control.loan-value g.dyn-1).it c.args.new.now _ c.args.windows.now c.args.self.now c.args.addition c.requires.kept c.requires.beside c.requires.addition

pub commit_layers-requires-clause-whole : goal.commit_layers-requires-clause-whole
commit_layers-requires-clause-whole g c =
    let control_loan = (control.loan-value g.dyn-1).it in
    let begun = control_loan c.begin.new.self in
    let live = subst (λ title. IsControlBegun (new_control_news c.args.new.now.size title c.args.addition.ticket.values) (control_loan c.args.taken).definition begun.definition) c.as_slice.ensures c.begin.ensures.begun in
    let ticket = c.requires.addition.ticket in
    subst AreSettled
    (sym (making.pushed control_loan c.args.self.now c.push.new.self.items.items _ _ c.push.ensures.items
    (making.new_seen control_loan c.args.new.now c.args.addition.ticket c.none-highlight.result c.begin.new.self (control_loan c.args.taken).slot ticket.values ticket.title c.none-highlight.ensures c.begin.ensures.slot)))
    (making.settled_made _ control_loan c.args.new.now _ c.args.windows.now c.args.self.now c.args.addition c.requires.kept c.requires.beside c.requires.addition (control_loan c.args.taken).slot begun.definition live c.say_bounds.ensures.setting)

pub returns-clause-step : goal.returns-clause-step
returns-clause-step g c before left took o =
    let control_loan = (control.loan-value g.dyn-1).it in
    let begun = control_loan c.begin.new.self in
    let live = subst (λ title. IsControlBegun (new_control_news c.args.new.now.size title c.args.addition.ticket.values) (control_loan c.args.taken).definition begun.definition) c.as_slice.ensures c.begin.ensures.begun in
    let ticket = c.requires.addition.ticket in
    making.made_over _ control_loan c.args.new.now _ c.args.windows.now c.args.self.now c.args.addition c.requires.kept c.requires.beside c.requires.addition (control_loan c.args.taken).slot begun.definition live c.say_bounds.ensures.setting
    c.commit_layers.new.self (record { alloc = c.args.self.now.alloc; list = c.push.new.self })
    (making.pushed control_loan c.args.self.now c.push.new.self.items.items _ _ c.push.ensures.items
    (making.new_seen control_loan c.args.new.now c.args.addition.ticket c.none-highlight.result c.begin.new.self (control_loan c.args.taken).slot ticket.values ticket.title c.none-highlight.ensures c.begin.ensures.slot))
    c.push.ensures.next c.commit_layers.ensures.set before left took o
