use Rattle.std.proofs.Common.{◌≡◌, true, cond, sym, ap, ◌∙◌, rules, SFits, w32}
use Rattle.std.proofs.lemmas.Int.{to_z-of_z}
use Rattle.tb_geom.specs.declared.refusal.Refusal.TheVariants.{NoMemory, OutOfRange}
use Rattle.script_runner.specs.Session.{may_be}
use Rattle.script_runner.proofs.Sessions.{new_desk, opened, memory_refused, size_refused}
use Rattle.script_runner.proofs.session.Session.open.Goals as goal

pub first_answer-outcome-requires-clause-whole : goal.first_answer-outcome-requires-clause-whole
first_answer-outcome-requires-clause-whole g c =
    let full = rw (c.requires.unmade, ← c.in-Some.ensures.value) at c.requires.ready in
    c.in-Ok.ensures.whole _ full

pub returns-in-Ok-clause-ends : goal.returns-in-Ok-clause-ends
returns-in-Ok-clause-ends g c =
    let full = rw (c.requires.unmade, ← c.in-Some.ensures.value) at c.requires.ready in
    let fits_w : SFits w32 c.first_size-size.result.width = search rules in
    let fits_h : SFits w32 c.first_size-size.result.height = search rules in
    let fits_b : SFits w32 c.first_size-size.result.bar = search rules in
    let fits : may_be c.first_size-size.result ≡ true = simp to_z-of_z at c.in-Ok.ensures.in_range in
    let empty = simp to_z-of_z at (c.in-Ok.ensures.begun _ full.windows) in
    rw (c.requires.unmade, ← c.in-Some.ensures.value) (opened c.args.writer.now.raw _ _ c.args.command.now _ _ _ _ _ c.requires.known (sym (ap may_be c.first_size-size.ensures) ∙ fits)
    (new_desk _ _ _ _ c.in-Ok.desk _ _ c.first_size-size.result _ c.first_size-size.ensures empty (c.in-Ok.ensures.just_begun _ full)) c.first_answer-outcome.ensures.answered)

pub returns-in-NoMemory-clause-ends : goal.returns-in-NoMemory-clause-ends
returns-in-NoMemory-clause-ends g c =
    let fits_w : SFits w32 c.first_size-size.result.width = search rules in
    let fits_h : SFits w32 c.first_size-size.result.height = search rules in
    let fits_b : SFits w32 c.first_size-size.result.bar = search rules in
    let why : c.in-Err.field-0.refusal ≡ cond (may_be c.first_size-size.result) NoMemory OutOfRange = simp to_z-of_z at c.in-Err.ensures.refused.1 in
    rw (c.requires.unmade, ← c.in-Some.ensures.value, c.in-Err.ensures.refused.0)
    (memory_refused (Unit {0}) c.args.writer.now.raw _ _ c.args.command.now _ c.requires.known (sym c.in-NoMemory.is ∙ why ∙ ap (λ s. cond (may_be s) NoMemory OutOfRange) c.first_size-size.ensures))

pub returns-in_default-refusal-clause-ready : goal.returns-in_default-refusal-clause-ready
returns-in_default-refusal-clause-ready g c = rw c.requires.unmade (rw (c.requires.unmade, ← c.in-Some.ensures.value) at c.requires.ready)

pub returns-in_default-refusal-clause-ends : goal.returns-in_default-refusal-clause-ends
returns-in_default-refusal-clause-ends g c =
    let fits_w : SFits w32 c.first_size-size.result.width = search rules in
    let fits_h : SFits w32 c.first_size-size.result.height = search rules in
    let fits_b : SFits w32 c.first_size-size.result.bar = search rules in
    let why : c.in-Err.field-0.refusal ≡ cond (may_be c.first_size-size.result) NoMemory OutOfRange = simp to_z-of_z at c.in-Err.ensures.refused.1 in
    rw (c.requires.unmade, ← c.in-Some.ensures.value, c.in-Err.ensures.refused.0)
    (size_refused c.args.writer.now.raw _ _ c.args.command.now c.in-Err.field-0.refusal _ _ _ c.requires.known (why ∙ ap (λ s. cond (may_be s) NoMemory OutOfRange) c.first_size-size.ensures) c.in_default-refusal.not-NoMemory c.reply.ensures.sent)
