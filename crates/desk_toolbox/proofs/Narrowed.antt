-- A call that asks for a region of the window whose update is open: that update answers it, and nothing changes.
use Rattle.std.proofs.Common.{◌≡◌, Some, Result, Ok, Err, refl, sym, subst}
use Rattle.tb_geom.specs.declared.refusal.Refusal.{Refusal}
use Rattle.tb_geom.specs.Points.{PixelSet}
use Rattle.desk_call.specs.declared.window.WindowCall.{WindowCall}
use Rattle.desk_call.specs.declared.window.WindowCall.TheVariants.{VisibleRegion, UpdateRegion}
use Rattle.desk_call.specs.declared.window.WindowReply.{WindowReply}
use Rattle.window_mgr.specs.DeskStates.{narrowed}
use Rattle.window_update.specs.UpdateSteps.{IsToldOf}
use Rattle.desk_toolbox.specs.Run.{IsWindowAnswer, IsWindowAnswered, IsWindowMade, shown_with}
use Rattle.desk_toolbox.specs.ToolboxStates.{ToolboxState}
use Rattle.desk_toolbox.proofs.Asked.{unchanged}

told : (call : WindowCall) (answer : Result WindowReply Refusal) (s : ToolboxState) (set : PixelSet)
    → narrowed call s.desk.activity s.desk.begun ≡ Some set → IsToldOf set answer → IsWindowAnswered call answer s.desk s.desk
told call answer s set is tells = subst (λ o. IsWindowAnswer o call answer s.desk s.desk) (sym is) (tells, (unchanged s).desk)

pub narrowed_made : (call : WindowCall) (answer : Result WindowReply Refusal) (s : ToolboxState) (set : PixelSet)
    → narrowed call s.desk.activity s.desk.begun ≡ Some set → IsToldOf set answer
    → s.desk.windows ≡ shown_with s.controls.controls s.lists.lists s.texts.texts s.desk.windows → IsWindowMade call answer s s
narrowed_made (VisibleRegion w) (Ok answer) s set is tells shown = record {
  middle = s.desk;
  answered = told (VisibleRegion w) (Ok answer) s set is tells;
  told = s.desk.windows;
  activity = record { activity = refl; begun = refl };
  caught_up = refl;
  shown = shown;
  controls = refl;
  lists = refl;
  texts = refl;
  events = refl;
  menus = refl;
}
narrowed_made (UpdateRegion w) (Ok answer) s set is tells shown = record {
  middle = s.desk;
  answered = told (UpdateRegion w) (Ok answer) s set is tells;
  told = s.desk.windows;
  activity = record { activity = refl; begun = refl };
  caught_up = refl;
  shown = shown;
  controls = refl;
  lists = refl;
  texts = refl;
  events = refl;
  menus = refl;
}
narrowed_made call (Err e) s set is tells shown = (told call (Err e) s set is tells, record { events = refl; controls = refl; lists = refl; texts = refl; menus = refl })
narrowed_made _ (Ok answer) s set is tells shown = absurd (cc)
