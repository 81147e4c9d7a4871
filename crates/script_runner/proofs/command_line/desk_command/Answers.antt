use Rattle.std.proofs.Common.{◌≡◌, rules, codes, ◌∙◌}
use Rattle.clap.specs.Words.{app_of, new_app, with_rule}
use Rattle.script_runner.specs.Choices.{word_rule}
use Rattle.script_runner.proofs.command_line.desk_command.Goals as goal

pub returns : goal.returns
returns c =
    let named : app_of c.in_ok-command.command ≡ new_app (codes "desk") = search rules in
    let script : app_of c.in_ok-command-2.command ≡ with_rule (new_app (codes "desk")) (word_rule (codes "SCRIPT")) =
    c.in_ok-command-2.ensures.shape c.positional-script.ensures.local ∙ (λ i. with_rule (named i) (c.positional-script.ensures.rule i)) in
    let raw = c.in_ok-command-3.ensures.shape c.flag-raw.ensures.local ∙ (λ i. with_rule (script i) (c.flag-raw.ensures.rule i)) in
    let check = c.in_ok-command-4.ensures.shape c.flag-check.ensures.local ∙ (λ i. with_rule (raw i) (c.flag-check.ensures.rule i)) in
    c.in_ok-command-5.ensures.shape c.option-font.ensures.local ∙ (λ i. with_rule (check i) (c.option-font.ensures.rule i))
