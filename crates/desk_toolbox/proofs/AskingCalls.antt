-- Calls on windows that ask: they come at any time, change nothing, and make no window.
use Rattle.std.proofs.Common.{◌≡◌, [], Option, None, Some, Result, Ok, Err, refl}
use Rattle.tb_geom.specs.declared.refusal.Refusal.{Refusal}
use Rattle.tb_geom.specs.declared.refusal.Refusal.TheVariants.{Busy}
use Rattle.desk_call.specs.declared.activity.Activity.{Activity}
use Rattle.desk_call.specs.declared.activity.Standing.TheVariants.{Asks, Changes}
use Rattle.desk_call.specs.declared.window.WindowCall.{WindowCall}
use Rattle.desk_call.specs.declared.window.WindowCall.TheVariants as asks
use Rattle.desk_call.specs.declared.window.WindowReply.{WindowReply}
use Rattle.desk_call.specs.Gates.{gate, window_standing}
use Rattle.vis_update.specs.Records.{WindowRecord}
use Rattle.window_mgr.specs.Effects.{Effect, IsEffect, IsUnchanged, effect_of, places}
use Rattle.window_mgr.specs.Effects.Effect.{Tells}
use Rattle.window_mgr.specs.Finding.{record_with, info_of}
use Rattle.window_mgr.specs.FullDesk.{FullDesk, FullState}
use Rattle.window_mgr.specs.Placings.{Placing, sized, zoomed}
use Rattle.window_mgr.specs.Step.{IsWindowStep}
use Rattle.desk_toolbox.specs.Run.{serial_made}

-- where no call may come that changes anything, a call on windows comes only if it asks
pub window_asks : (call : WindowCall) (a : Activity) → gate a Changes ≡ Some Busy → gate a (window_standing call) ≡ None → window_standing call ≡ Asks
window_asks (asks.Find p) a busy may = refl
window_asks asks.Front a busy may = refl
window_asks (asks.Info s) a busy may = refl
window_asks (asks.VisibleRegion s) a busy may = refl
window_asks (asks.UpdateRegion s) a busy may = refl
window_asks (asks.Region f) a busy may = refl
window_asks _ a busy may = absurd (cc)

-- a call that asks changes nothing
asking_changes_nothing : (call : WindowCall) (answer : WindowReply) (before after : FullState) → IsEffect (effect_of call before.desk) answer before after → window_standing call ≡ Asks → IsUnchanged before after
asking_changes_nothing (asks.Find p) answer before after done e = done.1
asking_changes_nothing asks.Front answer before after done e = done.1
asking_changes_nothing (asks.Info s) answer before after done e = done.1
asking_changes_nothing (asks.VisibleRegion s) answer before after done e = done.1
asking_changes_nothing (asks.UpdateRegion s) answer before after done e = done.1
asking_changes_nothing (asks.Region f) answer before after done e = done.1
asking_changes_nothing _ answer before after done e = absurd (cc)

pub asked_changes_nothing : (call : WindowCall) (answer : Result WindowReply Refusal) (before after : FullState) → IsWindowStep call answer before after → window_standing call ≡ Asks → IsUnchanged before after
asked_changes_nothing call (Ok answer) before after step e = asking_changes_nothing call answer before after step.1 e
asked_changes_nothing call (Err e) before after step asked = step.1

-- what is told is no number of a new window
abbrev pub IsNumberless : Effect → Type 0
IsNumberless (Tells r) = serial_made r ≡ []
IsNumberless _ = Unit {0}

-- nor what a call answers that puts a window nowhere
placed_numberless : (o : Option Placing) → IsNumberless (places o)
placed_numberless None = refl
placed_numberless (Some p) = tt

pub numberless : (call : WindowCall) (desk : FullDesk) → IsNumberless (effect_of call desk)
numberless (asks.Size z) desk = placed_numberless (sized z (record_with z.window desk.windows))
numberless (asks.Zoom z) desk = placed_numberless (zoomed z (record_with z.window desk.windows) desk)
numberless (asks.Find p) desk = refl
numberless asks.Front desk = refl
numberless (asks.Info s) desk = by_window (record_with s desk.windows)
  where
    by_window : (o : Option WindowRecord) → serial_made (info_of o) ≡ []
    by_window None = refl
    by_window (Some w) = refl
numberless _ desk = tt
