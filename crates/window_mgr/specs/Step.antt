-- One step: what a call leaves, and what it answers.
use Rattle.std.specs.Prelude.{Result}
use Rattle.tb_geom.specs.declared.refusal.Refusal.{Refusal}
use Rattle.desk_call.specs.Steps.{IsRefusedFor, IsStepOf}
use Rattle.desk_call.specs.declared.window.WindowCall.{WindowCall}
use Rattle.desk_call.specs.declared.window.WindowReply.{WindowReply}
use Rattle.window_mgr.specs.FullDesk.{FullState}
use Rattle.window_mgr.specs.Refused.{IsRefusal, may_grow}
use Rattle.window_mgr.specs.Effects.{IsUnchanged, IsEffect, effect_of}

abbrev pub IsCallRefused : WindowCall → Refusal → FullState → Type 0
IsCallRefused call e state = IsRefusedFor (IsRefusal call state) (may_grow call) e

-- one step of a call on windows
abbrev pub IsWindowStep : WindowCall → Result WindowReply Refusal → FullState → FullState → Type 0
IsWindowStep call = IsStepOf (IsRefusal call) (may_grow call)
    (λ answer before after. IsEffect (effect_of call before.desk) answer before after) IsUnchanged
