-- A call that asks whose a point of the pulled menu is, or for a control there.
use Rattle.std.proofs.Common.{◌≡◌, Bool, true, false, None, Result, Ok, refl, sym, subst}
use Rattle.desk_call.specs.declared.window.WindowCall.{WindowCall}
use Rattle.desk_call.specs.declared.window.WindowReply.{WindowReply}
use Rattle.desk_call.specs.declared.control.ControlCall.{ControlCall}
use Rattle.desk_call.specs.declared.control.ControlReply.{ControlReply}
use Rattle.desk_call.specs.declared.control.ControlReply.TheVariants as control_reply
use Rattle.tb_geom.specs.declared.refusal.Refusal.{Refusal}
use Rattle.desk_toolbox.specs.Run.{IsControlTold, IsWindowTold, found_menu}
use Rattle.desk_toolbox.specs.ToolboxStates.{ToolboxState, IsToolboxUnchanged}

pub unchanged : (s : ToolboxState) → IsToolboxUnchanged s s
unchanged s = record {
  desk = record { windows = record { desk = refl; stale = λ p on. refl; image = λ p on. refl }; activity = refl; begun = refl };
  controls = refl;
  lists = refl;
  texts = refl;
  menus = refl;
  events = refl;
}

pub menu_is_told : (covered : Bool) (call : WindowCall) (s : ToolboxState) → covered ≡ true → IsWindowTold covered call (Ok found_menu) s s
menu_is_told true call s e = (refl, unchanged s)
menu_is_told false call s e = absurd (cc)

pub no_control_is_told : (covered : Bool) (call : ControlCall) (s : ToolboxState) → covered ≡ true → IsControlTold covered call (Ok (control_reply.Found None)) s s
no_control_is_told true call s e = (refl, unchanged s)
no_control_is_told false call s e = absurd (cc)

pub performed_is_told : (covered : Bool) (call : ControlCall) (answer : Result ControlReply Refusal) (before after : ToolboxState) → covered ≡ false → IsControlTold false call answer before after → IsControlTold covered call answer before after
performed_is_told covered call answer before after e step = subst (λ b. IsControlTold b call answer before after) (sym e) step

pub window_is_told : (covered : Bool) (call : WindowCall) (answer : Result WindowReply Refusal) (before after : ToolboxState) → covered ≡ false → IsWindowTold false call answer before after → IsWindowTold covered call answer before after
window_is_told covered call answer before after e step = subst (λ b. IsWindowTold b call answer before after) (sym e) step
