use Rattle.desk_call.specs.declared.control.ControlCall.TheVariants as asks
use Rattle.control_mgr.specs.Spots.{opened}
use Rattle.control_mgr.proofs.Performed.{asked_by, by_call, while_open}
use Rattle.control_mgr.proofs.perform.Controls+TakenControl.perform.Goals as goal

pub returns-in-New-clause-step : goal.returns-in-New-clause-step
returns-in-New-clause-step g c begun =
    asked_by _ _ c.args.call.now (asks.New c.in-New.new) _ _ _ c.args.windows.now c.make.new.windows c.args.self.now c.make.new.self (opened c.args.activity.now begun) (opened c.args.activity.now begun) c.in-New.is
    (c.make.ensures (opened c.args.activity.now begun))

pub returns-in-Dispose-clause-step : goal.returns-in-Dispose-clause-step
returns-in-Dispose-clause-step g c begun =
    asked_by _ _ c.args.call.now (asks.Dispose c.in-Dispose.control) _ _ _ c.args.windows.now c.dispose.new.windows c.args.self.now c.dispose.new.self (opened c.args.activity.now begun) (opened c.args.activity.now begun) c.in-Dispose.is
    (c.dispose.ensures (opened c.args.activity.now begun))

pub returns-in-Show-clause-step : goal.returns-in-Show-clause-step
returns-in-Show-clause-step g c begun =
    asked_by _ _ c.args.call.now (asks.Show c.in-Show.control) _ _ _ c.args.windows.now c.show.new.windows c.args.self.now c.show.new.self (opened c.args.activity.now begun) (opened c.args.activity.now begun) c.in-Show.is
    (c.show.ensures (opened c.args.activity.now begun) _)

pub returns-in-Hide-clause-step : goal.returns-in-Hide-clause-step
returns-in-Hide-clause-step g c begun =
    asked_by _ _ c.args.call.now (asks.Hide c.in-Hide.control) _ _ _ c.args.windows.now c.show-in-Hide.new.windows c.args.self.now c.show-in-Hide.new.self (opened c.args.activity.now begun) (opened c.args.activity.now begun) c.in-Hide.is
    (c.show-in-Hide.ensures (opened c.args.activity.now begun) _)

pub returns-in-Move-clause-step : goal.returns-in-Move-clause-step
returns-in-Move-clause-step g c begun =
    asked_by _ _ c.args.call.now (asks.Move c.in-Move.moved) _ _ _ c.args.windows.now c.move_control.new.windows c.args.self.now c.move_control.new.self (opened c.args.activity.now begun) (opened c.args.activity.now begun) c.in-Move.is
    (c.move_control.ensures (opened c.args.activity.now begun) _)

pub returns-in-Size-clause-step : goal.returns-in-Size-clause-step
returns-in-Size-clause-step g c begun =
    asked_by _ _ c.args.call.now (asks.Size c.in-Size.sized) _ _ _ c.args.windows.now c.size_control.new.windows c.args.self.now c.size_control.new.self (opened c.args.activity.now begun) (opened c.args.activity.now begun) c.in-Size.is
    (c.size_control.ensures (opened c.args.activity.now begun) _)

pub returns-in-SetValue-clause-step : goal.returns-in-SetValue-clause-step
returns-in-SetValue-clause-step g c begun =
    by_call _ _ c.args.call.now (asks.SetValue c.in-SetValue.set) _ _ _ c.args.windows.now c.set_number.new.windows c.args.self.now c.set_number.new.self (opened c.args.activity.now begun) (opened c.args.activity.now begun) c.in-SetValue.is
    (c.set_number.ensures (opened c.args.activity.now begun) _)

pub returns-in-SetMinimum-clause-step : goal.returns-in-SetMinimum-clause-step
returns-in-SetMinimum-clause-step g c begun =
    by_call _ _ c.args.call.now (asks.SetMinimum c.in-SetMinimum.set) _ _ _ c.args.windows.now c.set_number-in-SetMinimum.new.windows c.args.self.now c.set_number-in-SetMinimum.new.self (opened c.args.activity.now begun) (opened c.args.activity.now begun) c.in-SetMinimum.is
    (c.set_number-in-SetMinimum.ensures (opened c.args.activity.now begun) _)

pub returns-in-SetMaximum-clause-step : goal.returns-in-SetMaximum-clause-step
returns-in-SetMaximum-clause-step g c begun =
    by_call _ _ c.args.call.now (asks.SetMaximum c.in-SetMaximum.set) _ _ _ c.args.windows.now c.set_number-in-SetMaximum.new.windows c.args.self.now c.set_number-in-SetMaximum.new.self (opened c.args.activity.now begun) (opened c.args.activity.now begun) c.in-SetMaximum.is
    (c.set_number-in-SetMaximum.ensures (opened c.args.activity.now begun) _)

pub returns-in-Hilite-clause-step : goal.returns-in-Hilite-clause-step
returns-in-Hilite-clause-step g c begun =
    by_call _ _ c.args.call.now (asks.Hilite c.in-Hilite.set) _ _ _ c.args.windows.now c.hilite.new.windows c.args.self.now c.hilite.new.self (opened c.args.activity.now begun) (opened c.args.activity.now begun) c.in-Hilite.is
    (c.hilite.ensures (opened c.args.activity.now begun) _)

pub returns-in-SetTitle-clause-step : goal.returns-in-SetTitle-clause-step
returns-in-SetTitle-clause-step g c begun =
    by_call _ _ c.args.call.now (asks.SetTitle c.in-SetTitle.set) _ _ _ c.args.windows.now c.set_title.new.windows c.args.self.now c.set_title.new.self (opened c.args.activity.now begun) (opened c.args.activity.now begun) c.in-SetTitle.is
    (c.set_title.ensures (opened c.args.activity.now begun) _)

pub returns-in-Get-clause-step : goal.returns-in-Get-clause-step
returns-in-Get-clause-step g c begun =
    asked_by _ _ c.args.call.now (asks.Get c.in-Get.control) _ _ _ c.args.windows.now c.args.windows.now c.args.self.now c.args.self.now (opened c.args.activity.now begun) (opened c.args.activity.now begun) c.in-Get.is
    (c.get.ensures (opened c.args.activity.now begun) _)

pub returns-in-Find-clause-step : goal.returns-in-Find-clause-step
returns-in-Find-clause-step g c begun =
    asked_by _ _ c.args.call.now (asks.Find c.in-Find.asked) _ _ _ c.args.windows.now c.args.windows.now c.args.self.now c.args.self.now (opened c.args.activity.now begun) (opened c.args.activity.now begun) c.in-Find.is
    (c.find.ensures (opened c.args.activity.now begun) _)

pub returns-in-Test-clause-step : goal.returns-in-Test-clause-step
returns-in-Test-clause-step g c begun =
    asked_by _ _ c.args.call.now (asks.Test c.in-Test.asked) _ _ _ c.args.windows.now c.args.windows.now c.args.self.now c.args.self.now (opened c.args.activity.now begun) (opened c.args.activity.now begun) c.in-Test.is
    (c.test.ensures (opened c.args.activity.now begun) _)

pub returns-in-Track-clause-step : goal.returns-in-Track-clause-step
returns-in-Track-clause-step g c begun =
    by_call _ _ c.args.call.now (asks.Track c.in-Track.pressed) _ _ _ c.args.windows.now c.track.new.windows c.args.self.now c.track.new.self _ _ c.in-Track.is (c.track.ensures.step begun _)

pub returns-in-TrackingControl-clause-step : goal.returns-in-TrackingControl-clause-step
returns-in-TrackingControl-clause-step g c begun =
    while_open _ _ c.args.call.now (asks.Step c.in-Step.point) _ _ c.args.windows.now c.step.new.windows c.args.self.now c.step.new.self c.args.activity.now _ begun c.in-Step.is c.in-TrackingControl.is (c.step.ensures.step begun _)

pub returns-in-TrackingControl-activity-clause-step : goal.returns-in-TrackingControl-activity-clause-step
returns-in-TrackingControl-activity-clause-step g c begun =
    by_call _ _ c.args.call.now (asks.End c.in-End.point) _ _ _ c.args.windows.now c.end.new.windows c.args.self.now c.end.new.self _ _ c.in-End.is (c.end.ensures.step begun _)
