use Rattle.std.proofs.Common.{◌≡◌, ◌≢◌, ◌∷◌, pos, ap, ◌∙◌, rules, SFits, w32}
use Rattle.std.proofs.lemmas.Int.{ints, to_z-of_z}
use Rattle.region_bytes.specs.Words.{words_in}
use Rattle.region_bytes.proofs.Flags.{no_words_left}
use Rattle.region_rows.proofs.Restored.{IsRestored-none, IsNext-from, read_next, not_over, restored_all}
use Rattle.region_rows.proofs.restore.restored_rows.Goals as goal

pub loop-v-init : goal.loop-v-init
loop-v-init c = rw (c.new-rows.ensures.items) (IsRestored-none _ c.requires)

pub returns-then-v-eq-END : goal.returns-then-v-eq-END
returns-then-v-eq-END c =
    let end : c.in-Some.v ≡ pos 32767 = search (rules, ints) in
    λ points in_range same.
    restored_all _ _ _ (words_in c.in-Some.after.now) c.loop-v.invariant (c.in-Some.ensures.0 ∙ ap (λ w. w ∷ words_in c.in-Some.after.now) end) points in_range same

pub returns : goal.returns
returns c = absurd (not_over _ _ _ c.loop-v.invariant (no_words_left _ c.in_default.ensures))

pub loop-v-preserved : goal.loop-v-preserved
loop-v-preserved c =
    let fits : SFits w32 c.in-Some.v = search rules in
    let apart : c.in-Some.v ≢ pos 32767 = search (rules, ints) in
    let n = IsNext-from _ _ _ _ _ c.loop-v.invariant apart c.in-Some.ensures.0 in
    let read = read_next _ _ _ _ _ _ n c.in_ok-read.ensures.columns in
    rw (c.in_ok-push.ensures.items, c.new.ensures) (simp to_z-of_z read)
