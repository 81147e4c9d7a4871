use Rattle.std.proofs.Common.{◌≡◌, ◌≤◌, ◌<◌, ◌⊎◌, [], ◌∷◌, None, Some, SFits, w32, subst, rules}
use Rattle.std.specs.Prelude.{if◌then◌else◌, nat_abs, pos}
use Rattle.std.proofs.lemmas.Int.{to_z-of_z}
use Rattle.text_mgr.specs.CallEdits.{is_outside}
use Rattle.text_mgr.specs.declared.changes.Change.TheVariants.{Selected}
use Rattle.text_mgr.proofs.Changing.{arrow_shown, code_is, keyed_shown, nothing_said, typed_shown}
use Rattle.text_mgr.proofs.changes.from_key.Goals as goal

pub returns-in-Some-eq8 : goal.returns-in-Some-eq8
returns-in-Some-eq8 c =
    let number : SFits w32 c.args.number = search rules in
    let code : c.key_of.result ≡ (if is_outside (pos 0) (pos 255) c.args.number then None else Some (nat_abs c.args.number)) = simp to_z-of_z at c.key_of.ensures in
    let eight : c.in-Some-eq8.field-0 ≡ 8 = search rules in
    keyed_shown c.from_backspace.result c.args.font.now (nat_abs c.args.number) 8 c.args.record.now
    (code_is (is_outside (pos 0) (pos 255) c.args.number) (nat_abs c.args.number) 8 c.key_of.result code (subst (λ k. c.key_of.result ≡ Some k) eight c.in-Some-eq8.is)) c.from_backspace.ensures

pub returns-in-Some-28-to-31 : goal.returns-in-Some-28-to-31
returns-in-Some-28-to-31 c =
    let number : SFits w32 c.args.number = search rules in
    let code : c.key_of.result ≡ (if is_outside (pos 0) (pos 255) c.args.number then None else Some (nat_abs c.args.number)) = simp to_z-of_z at c.key_of.ensures in
    let k = c.in-Some-28-to-31.field-0 in
    let low : 28 ≤ k = search rules in
    let high : k ≤ 31 = search rules in
    keyed_shown (Selected c.of.result) c.args.font.now (nat_abs c.args.number) k c.args.record.now
    (code_is (is_outside (pos 0) (pos 255) c.args.number) (nat_abs c.args.number) k c.key_of.result code c.in-Some-28-to-31.is)
    (arrow_shown c.args.font.now k c.args.record.now c.of.result c.of.ensures low high)

pub returns-in-Some : goal.returns-in-Some
returns-in-Some c =
    let number : SFits w32 c.args.number = search rules in
    let code : c.key_of.result ≡ (if is_outside (pos 0) (pos 255) c.args.number then None else Some (nat_abs c.args.number)) = simp to_z-of_z at c.key_of.ensures in
    let k = c.in-Some.field-0 in
    let other : k ≡ 8 → ⊥ = search rules in
    let outside : k < 28 ⊎ 31 < k = search rules in
    keyed_shown c.from_selection.result c.args.font.now (nat_abs c.args.number) k c.args.record.now
    (code_is (is_outside (pos 0) (pos 255) c.args.number) (nat_abs c.args.number) k c.key_of.result code c.in-Some.is)
    (typed_shown c.from_selection.result c.args.font.now k c.args.record.now other outside (c.from_selection.ensures.put c.args.record.now.end (k ∷ [])))

pub returns-in-None : goal.returns-in-None
returns-in-None c = nothing_said c.args.font.now _ _
