use Rattle.std.proofs.Common.{sym, ◌∙◌}
use Rattle.window_mgr.proofs.DrawRefusals as refusing
use Rattle.window_mgr.proofs.FindLemmas.{some_at}
use Rattle.window_mgr.proofs.manager.WindowManager.index_to_draw.Goals as goal

pub returns-in-Err-default : goal.returns-in-Err-default
returns-in-Err-default g c = refusing.formal_first _ c.args.self.now c.requires c.args.drawing.now c.in-Err-default.refusal c.in-Err-default.ensures (sym c.is_formal.ensures ∙ c.if-is_formal.true)

pub returns-in-Err-Some : goal.returns-in-Err-Some
returns-in-Err-Some g c = refusing.then_judged _ c.args.self.now c.requires c.args.drawing.now c.in-Err-Some.field-0-1 c.in-Err-default.refusal c.in-Err-default.ensures (sym c.is_formal.ensures ∙ c.if-is_formal.false) (some_at c.args.self.now.windows.records.items c.args.drawing.now.window _ c.in-Err-Some.ensures)

pub returns-then-ops-lt-MOST_OPERATIONS : goal.returns-then-ops-lt-MOST_OPERATIONS
returns-then-ops-lt-MOST_OPERATIONS g c =
    refusing.may_draw _ c.args.self.now c.requires c.args.drawing.now c.in-Ok-Some.at (rw c.in-Ok-Some.is-0 at c.judge.ensures) (some_at c.args.self.now.windows.records.items c.args.drawing.now.window c.in-Ok-Some.at c.in-Ok-Some.ensures) c.at.result.now c.at.ensures (rw c.ops.ensures.same at c.if-ops-lt-MOST_OPERATIONS.true)

pub returns-else-ops-lt-MOST_OPERATIONS : goal.returns-else-ops-lt-MOST_OPERATIONS
returns-else-ops-lt-MOST_OPERATIONS g c =
    refusing.full _ c.args.self.now c.requires c.args.drawing.now c.in-Ok-Some.at (rw c.in-Ok-Some.is-0 at c.judge.ensures) (some_at c.args.self.now.windows.records.items c.args.drawing.now.window c.in-Ok-Some.at c.in-Ok-Some.ensures) c.at.result.now c.at.ensures (rw c.ops.ensures.same at c.if-ops-lt-MOST_OPERATIONS.false)

pub returns-in_default-None : goal.returns-in_default-None
returns-in_default-None g c = refusing.no_window_first _ c.args.self.now c.requires c.args.drawing.now c.in-Err-default.refusal c.in-Err-default.ensures (sym c.is_formal.ensures ∙ c.if-is_formal.false) c.in_default-None.ensures
