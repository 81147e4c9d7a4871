use Rattle.std.proofs.Common.{Ok}
use Rattle.desk_call.specs.declared.text.TextCall.TheVariants as asks
use Rattle.text_mgr.specs.Spots.{opened}
use Rattle.text_mgr.proofs.Performed.{asked_by, by_call, while_open}
use Rattle.text_mgr.proofs.texts.Texts.perform_other.Goals as goal

pub returns-in-New-clause-step : goal.returns-in-New-clause-step
returns-in-New-clause-step g c begun =
    asked_by _ c.args.call.now (asks.New c.in-New.new) _ c.args.windows.now c.make.new.windows c.args.self.now c.make.new.self (opened c.args.activity.now begun) (opened c.args.activity.now begun) c.in-New.is
    (c.make.ensures (opened c.args.activity.now begun))

pub returns-in-Place-clause-step : goal.returns-in-Place-clause-step
returns-in-Place-clause-step g c begun =
    asked_by _ c.args.call.now (asks.Place c.in-Place.placed) _ c.args.windows.now c.place.new.windows c.args.self.now c.place.new.self (opened c.args.activity.now begun) (opened c.args.activity.now begun) c.in-Place.is
    (c.place.ensures (opened c.args.activity.now begun))

pub returns-in-Dispose-clause-step : goal.returns-in-Dispose-clause-step
returns-in-Dispose-clause-step g c begun =
    asked_by _ c.args.call.now (asks.Dispose c.in-Dispose.text) _ c.args.windows.now c.dispose.new.windows c.args.self.now c.dispose.new.self (opened c.args.activity.now begun) (opened c.args.activity.now begun) c.in-Dispose.is
    (c.dispose.ensures (opened c.args.activity.now begun))

pub returns-in-Show-clause-step : goal.returns-in-Show-clause-step
returns-in-Show-clause-step g c begun =
    asked_by _ c.args.call.now (asks.Show c.in-Show.text) _ c.args.windows.now c.show.new.windows c.args.self.now c.show.new.self (opened c.args.activity.now begun) (opened c.args.activity.now begun) c.in-Show.is
    (c.show.ensures (opened c.args.activity.now begun))

pub returns-in-Hide-clause-step : goal.returns-in-Hide-clause-step
returns-in-Hide-clause-step g c begun =
    asked_by _ c.args.call.now (asks.Hide c.in-Hide.text) _ c.args.windows.now c.show-in-Hide.new.windows c.args.self.now c.show-in-Hide.new.self (opened c.args.activity.now begun) (opened c.args.activity.now begun) c.in-Hide.is
    (c.show-in-Hide.ensures (opened c.args.activity.now begun))

pub returns-in-Copy-clause-step : goal.returns-in-Copy-clause-step
returns-in-Copy-clause-step g c begun =
    asked_by _ c.args.call.now (asks.Copy c.in-Copy.text) _ c.args.windows.now c.args.windows.now c.args.self.now c.copy.new.self (opened c.args.activity.now begun) (opened c.args.activity.now begun) c.in-Copy.is
    (c.copy.ensures (opened c.args.activity.now begun))

pub returns-in-Click-clause-step : goal.returns-in-Click-clause-step
returns-in-Click-clause-step g c begun =
    by_call _ c.args.call.now (asks.Click c.in-Click.clicked) _ c.args.windows.now c.click.new.windows c.args.self.now c.click.new.self _ _ c.in-Click.is (c.click.ensures.step begun)

pub returns-in-Selecting-clause-step : goal.returns-in-Selecting-clause-step
returns-in-Selecting-clause-step g c begun =
    while_open _ c.args.call.now (asks.Step c.in-Step.point) _ c.args.windows.now c.step.new.windows c.args.self.now c.step.new.self c.args.activity.now _ begun c.in-Step.is c.in-Selecting.is (c.step.ensures.step begun)

pub returns-in-Selecting-activity-clause-step : goal.returns-in-Selecting-activity-clause-step
returns-in-Selecting-activity-clause-step g c begun =
    by_call _ c.args.call.now (asks.End c.in-End.point) _ c.args.windows.now c.end.new.windows c.args.self.now c.end.new.self _ _ c.in-End.is (c.end.ensures.step begun)

pub returns-in-Get-clause-step : goal.returns-in-Get-clause-step
returns-in-Get-clause-step g c begun =
    asked_by _ c.args.call.now (asks.Get c.in-Get.text) _ c.args.windows.now c.args.windows.now c.args.self.now c.args.self.now (opened c.args.activity.now begun) (opened c.args.activity.now begun) c.in-Get.is
    (c.get.ensures (opened c.args.activity.now begun))

pub returns-in-Info-clause-step : goal.returns-in-Info-clause-step
returns-in-Info-clause-step g c begun =
    asked_by _ c.args.call.now (asks.Info c.in-Info.text) _ c.args.windows.now c.args.windows.now c.args.self.now c.args.self.now (opened c.args.activity.now begun) (opened c.args.activity.now begun) c.in-Info.is
    (c.info.ensures (opened c.args.activity.now begun))

pub returns-in-Line-clause-step : goal.returns-in-Line-clause-step
returns-in-Line-clause-step g c begun =
    asked_by _ c.args.call.now (asks.Line c.in-Line.asked) _ c.args.windows.now c.args.windows.now c.args.self.now c.args.self.now (opened c.args.activity.now begun) (opened c.args.activity.now begun) c.in-Line.is
    (c.line.ensures (opened c.args.activity.now begun))

pub returns-in-PlaceOf-clause-step : goal.returns-in-PlaceOf-clause-step
returns-in-PlaceOf-clause-step g c begun =
    asked_by _ c.args.call.now (asks.PlaceOf c.in-PlaceOf.asked) _ c.args.windows.now c.args.windows.now c.args.self.now c.args.self.now (opened c.args.activity.now begun) (opened c.args.activity.now begun) c.in-PlaceOf.is
    (c.place_of.ensures (opened c.args.activity.now begun))

pub returns-in-OffsetAt-clause-step : goal.returns-in-OffsetAt-clause-step
returns-in-OffsetAt-clause-step g c begun =
    asked_by _ c.args.call.now (asks.OffsetAt c.in-OffsetAt.asked) _ c.args.windows.now c.args.windows.now c.args.self.now c.args.self.now (opened c.args.activity.now begun) (opened c.args.activity.now begun) c.in-OffsetAt.is
    (c.offset_at.ensures (opened c.args.activity.now begun))

pub returns-in-Scrap-clause-step : goal.returns-in-Scrap-clause-step
returns-in-Scrap-clause-step g c begun =
    asked_by _ c.args.call.now asks.Scrap _ c.args.windows.now c.args.windows.now c.args.self.now c.args.self.now (opened c.args.activity.now begun) (opened c.args.activity.now begun) c.in-Scrap.is
    (c.scrap.ensures (opened c.args.activity.now begun))

pub returns-in-SetScrap-clause-step : goal.returns-in-SetScrap-clause-step
returns-in-SetScrap-clause-step g c begun =
    asked_by _ c.args.call.now (asks.SetScrap c.in-SetScrap.bytes) _ c.args.windows.now c.args.windows.now c.args.self.now c.set_scrap.new.self (opened c.args.activity.now begun) (opened c.args.activity.now begun) c.in-SetScrap.is
    (c.set_scrap.ensures (opened c.args.activity.now begun))

pub returns-in-Width-clause-step : goal.returns-in-Width-clause-step
returns-in-Width-clause-step g c begun =
    asked_by _ c.args.call.now (asks.Width c.in-Width.bytes) _ c.args.windows.now c.args.windows.now c.args.self.now c.args.self.now (opened c.args.activity.now begun) (opened c.args.activity.now begun) c.in-Width.is
    (c.width.ensures (opened c.args.activity.now begun))

pub returns-in-FontInfo-clause-step : goal.returns-in-FontInfo-clause-step
returns-in-FontInfo-clause-step g c begun =
    asked_by _ c.args.call.now asks.FontInfo (Ok c.font_info.result) c.args.windows.now c.args.windows.now c.args.self.now c.args.self.now (opened c.args.activity.now begun) (opened c.args.activity.now begun) c.in-FontInfo.is
    (c.font_info.ensures (opened c.args.activity.now begun))
