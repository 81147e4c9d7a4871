-- What a call writes on the screen, at the most.
use Rattle.std.specs.Prelude.{◌≡◌, [], Option, None, Some, Result, Err}
use Rattle.tb_geom.specs.declared.refusal.Refusal.{Refusal}
use Rattle.bit_map.specs.Bits.{Bits}
use Rattle.def_iface.specs.Slots.{TakenBox}
use Rattle.def_iface.specs.WindowMeaning.{WindowLoan}
use Rattle.desk_call.specs.declared.activity.Activity.{Activity}
use Rattle.desk_call.specs.declared.call.Call.{Call}
use Rattle.desk_call.specs.declared.call.Call.TheVariants.{Window, Outline}
use Rattle.desk_call.specs.declared.call.Reply.{Reply}
use Rattle.desk_call.specs.declared.window.MoveWindow.{MoveWindow}
use Rattle.desk_call.specs.declared.window.WindowCall.TheVariants.{Move}
use Rattle.window_mgr.specs.declared.manager.WindowManager.{WindowManager}
use Rattle.window_mgr.specs.Records.{desk_of}
use Rattle.window_frame.specs.Economy.{IsEconomical}
use Rattle.window_outline.specs.Outlining.{let_go_of}

-- a refused call on windows wrote nothing: each pixel of the map is as it was, and as often written; of the other calls nothing
-- is said
abbrev pub IsQuietRefusal : Call → Result Reply Refusal → Bits → Bits → Type 0
IsQuietRefusal (Window call) (Err e) old new = new ≡ old
IsQuietRefusal _ _ old new = Unit {0}

module _ {V : Type 0} {H : V → Type 0} (loan : TakenBox V H → WindowLoan) where
  -- so was the move by which a drag ended, if one did
  abbrev pub IsDropEconomical : Option MoveWindow → WindowManager V H → WindowManager V H → Type 0
  IsDropEconomical None old new = Unit {0}
  IsDropEconomical (Some drop) old new = IsEconomical loan (Move drop) old new

  -- while this was open, a call that moves, sizes, shows, hides, selects, brings to the front, sends behind or disposes of a
  -- window was economical, and one that ended a drag; of the other calls nothing is said
  abbrev pub IsCallEconomical : Call → Activity → WindowManager V H → WindowManager V H → Type 0
  IsCallEconomical (Window call) activity old new = IsEconomical loan call old new
  IsCallEconomical (Outline call) activity old new = IsDropEconomical (let_go_of call activity (desk_of loan old [])) old new
  IsCallEconomical _ activity old new = Unit {0}
