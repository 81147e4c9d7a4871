use Rattle.std.proofs.Common.{◌≡◌}
use Rattle.desk_toolbox.specs.EventSteps.{events_left}
use Rattle.desk_toolbox.proofs.Ended.{controls_end, controls_stay, events_stay, lists_end, lists_stay, of_the_end, texts_end, texts_stay}
use Rattle.desk_toolbox.proofs.answering.forget.Goals as goal

pub returns-in-Some-clause-events : goal.returns-in-Some-clause-events
returns-in-Some-clause-events g c call is =
    of_the_end (λ k. c.forget.new.self ≡ events_left k c.args.events.now) call c.args.ends c.in-Some.window is c.in-Some.is c.forget.ensures

pub returns-in-Some-clause-controls : goal.returns-in-Some-clause-controls
returns-in-Some-clause-controls g c call is = controls_end call c.args.ends c.in-Some.window _ _ is c.in-Some.is c.end_of.ensures

pub returns-in-Some-clause-lists : goal.returns-in-Some-clause-lists
returns-in-Some-clause-lists g c call is = lists_end call c.args.ends c.in-Some.window _ _ is c.in-Some.is c.end_of-in-Some.ensures

pub returns-in-Some-clause-texts : goal.returns-in-Some-clause-texts
returns-in-Some-clause-texts g c call is = texts_end call c.args.ends c.in-Some.window _ _ is c.in-Some.is c.end_of-in-Some-2.ensures

pub returns-in_default-clause-events : goal.returns-in_default-clause-events
returns-in_default-clause-events g c call is = events_stay call c.args.ends _ is c.in_default.not-Some

pub returns-in_default-clause-controls : goal.returns-in_default-clause-controls
returns-in_default-clause-controls g c call is = controls_stay call c.args.ends _ is c.in_default.not-Some

pub returns-in_default-clause-lists : goal.returns-in_default-clause-lists
returns-in_default-clause-lists g c call is = lists_stay call c.args.ends _ is c.in_default.not-Some

pub returns-in_default-clause-texts : goal.returns-in_default-clause-texts
returns-in_default-clause-texts g c call is = texts_stay call c.args.ends _ is c.in_default.not-Some
