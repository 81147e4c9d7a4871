-- A call that leaves windows and screen alone is quiet and economical, whatever it answers.
use Rattle.std.proofs.Common.{◌≡◌, [], Option, None, Some, Result, Ok, Err, refl, sym, subst}
use Rattle.std.specs.Result.{OnErr}
use Rattle.tb_geom.specs.declared.refusal.Refusal.{Refusal}
use Rattle.bit_map.specs.Bits.{Bits}
use Rattle.def_iface.specs.Slots.{TakenBox}
use Rattle.def_iface.specs.WindowMeaning.{WindowLoan}
use Rattle.desk_call.specs.declared.activity.Activity.{Activity}
use Rattle.desk_call.specs.declared.call.Call.{Call}
use Rattle.desk_call.specs.declared.call.Call.TheVariants.{Window, Update, Frame, Control, List, Text, Menu, Outline, Event}
use Rattle.desk_call.specs.declared.call.Reply.{Reply}
use Rattle.desk_call.specs.declared.call.Reply.TheVariants as reply
use Rattle.desk_call.specs.declared.window.MoveWindow.{MoveWindow}
use Rattle.desk_call.specs.declared.window.WindowCall.{WindowCall}
use Rattle.desk_call.specs.declared.window.WindowCall.TheVariants.{Move}
use Rattle.desk_call.specs.declared.window.WindowReply.{WindowReply}
use Rattle.window_mgr.specs.declared.manager.WindowManager.{WindowManager}
use Rattle.window_mgr.specs.Records.{desk_of}
use Rattle.window_frame.proofs.Economical.{economical_untouched}
use Rattle.window_outline.specs.Outlining.{let_go_of}
use Rattle.desk_toolbox.specs.Economy.{IsCallEconomical, IsDropEconomical, IsQuietRefusal}
use Rattle.desk_toolbox.specs.Run.{replied}

pub quiet_untouched : (call : Call) (result : Result Reply Refusal) (screen : Bits) → IsQuietRefusal call result screen screen
quiet_untouched (Window call) (Ok answer) screen = tt
quiet_untouched (Window call) (Err e) screen = refl
quiet_untouched (Update call) result screen = tt
quiet_untouched (Frame call) result screen = tt
quiet_untouched (Control call) result screen = tt
quiet_untouched (List call) result screen = tt
quiet_untouched (Text call) result screen = tt
quiet_untouched (Menu call) result screen = tt
quiet_untouched (Outline call) result screen = tt
quiet_untouched (Event call) result screen = tt

-- a refused call on windows that wrote nothing is quiet, by the name that the Toolbox gives to its answer
pub quiet_named : (call : WindowCall) (own : Result WindowReply Refusal) (result : Result Reply Refusal) (old new : Bits) → result ≡ replied reply.Window own → OnErr own (new ≡ old) → IsQuietRefusal (Window call) result old new
quiet_named call (Ok answer) result old new is quiet = subst (λ r. IsQuietRefusal (Window call) r old new) (sym is) tt
quiet_named call (Err e) result old new is quiet = subst (λ r. IsQuietRefusal (Window call) r old new) (sym is) quiet

module _ {V : Type 0} {H : V → Type 0} (loan : TakenBox V H → WindowLoan) where
  dropped_nowhere : (drop : Option MoveWindow) (t : WindowManager V H) → IsDropEconomical loan drop t t
  dropped_nowhere None t = tt
  dropped_nowhere (Some drop) t = economical_untouched loan (Move drop) t

  pub spared_untouched : (call : Call) (activity : Activity) (t : WindowManager V H) → IsCallEconomical loan call activity t t
  spared_untouched (Window call) activity t = economical_untouched loan call t
  spared_untouched (Outline call) activity t = dropped_nowhere (let_go_of call activity (desk_of loan t [])) t
  spared_untouched (Update call) activity t = tt
  spared_untouched (Frame call) activity t = tt
  spared_untouched (Control call) activity t = tt
  spared_untouched (List call) activity t = tt
  spared_untouched (Text call) activity t = tt
  spared_untouched (Menu call) activity t = tt
  spared_untouched (Event call) activity t = tt
