-- Whatever a call does, the stock has the same slots, for the same kinds.
use Rattle.std.proofs.Common.{◌≡◌, ℕ, List, map, Result, Ok, Err, ap}
use Rattle.tb_geom.specs.declared.refusal.Refusal.{Refusal}
use Rattle.desk_call.specs.declared.window.WindowCall.{WindowCall}
use Rattle.desk_call.specs.declared.window.WindowReply.{WindowReply}
use Rattle.window_mgr.specs.FullDesk.{FullDesk, FullState}
use Rattle.window_mgr.specs.Step.{IsWindowStep}
use Rattle.window_mgr.specs.Effects.{Effect, IsEffect, effect_of}
use Rattle.window_mgr.specs.Effects.Effect.{Makes, Disposes, Draws, Pictures, Scrolls, Arranges, Places, Tells, Describes}
use Rattle.window_mgr.proofs.SlotLemmas.{kinds_when_taken}
use Rattle.window_mgr.proofs.Disposed.{disposed_keeps_kinds}

-- the kinds of the stock that a desk uses
abbrev pub kinds_of : FullState → List (List ℕ)
kinds_of s = map (λ slot. slot.kind) s.desk.stock

effect_keeps_kinds : (effect : Effect) (answer : WindowReply) (before after : FullState) → IsEffect effect answer before after → kinds_of after ≡ kinds_of before
effect_keeps_kinds (Makes floating w) answer before after (n, is, new) = kinds_when_taken w.kind new.loan before.desk.stock after.desk.stock new.taken
effect_keeps_kinds (Draws d) answer before after (is, drawn) = ap (λ (d : FullDesk). map (λ slot. slot.kind) d.stock) drawn.desk
effect_keeps_kinds (Pictures n) answer before after (is, done) = ap (λ (d : FullDesk). map (λ slot. slot.kind) d.stock) done.desk
effect_keeps_kinds (Scrolls m) answer before after (is, done) = ap (λ (d : FullDesk). map (λ slot. slot.kind) d.stock) done.desk
effect_keeps_kinds (Arranges a) answer before after (is, arranged) = ap (λ (d : FullDesk). map (λ slot. slot.kind) d.stock) arranged.desk
effect_keeps_kinds (Disposes s) answer before after (is, closed) = disposed_keeps_kinds s before after closed
effect_keeps_kinds (Places p) answer before after (is, change) = ap (λ (d : FullDesk). map (λ slot. slot.kind) d.stock) change.arranged.desk
effect_keeps_kinds (Tells r) answer before after (is, same) = ap (λ (d : FullDesk). map (λ slot. slot.kind) d.stock) same.desk
effect_keeps_kinds (Describes region) answer before after (is, same) = ap (λ (d : FullDesk). map (λ slot. slot.kind) d.stock) same.desk

pub step_keeps_kinds : (call : WindowCall) (answer : Result WindowReply Refusal) (before after : FullState) → IsWindowStep call answer before after → kinds_of after ≡ kinds_of before
step_keeps_kinds call (Ok answer) before after step = effect_keeps_kinds (effect_of call before.desk) answer before after step.1
step_keeps_kinds call (Err e) before after step = ap (λ (d : FullDesk). map (λ slot. slot.kind) d.stock) step.1.desk
