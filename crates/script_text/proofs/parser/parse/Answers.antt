use Rattle.std.proofs.Common.{◌≡◌, ◌⊎◌, Err, SFits, w32, subst, sym, ◌∙◌, rules}
use Rattle.std.proofs.lemmas.Int.{to_z-of_z}
use Rattle.tb_geom.specs.declared.refusal.Refusal.TheVariants.{BadSyntax}
use Rattle.script_text.specs.Spelling.{IsLine}
use Rattle.script_text.proofs.LineLaws.{line-reads, line-spelled}
use Rattle.script_text.proofs.parser.parse.Goals as goal

pub returns-clause-found : goal.returns-clause-found
returns-clause-found c =
    let fits : SFits w32 c.args.version = search rules in
    let read = simp to_z-of_z at c.read.ensures in
    subst (λ r. IsLine c.args.version c.args.line.now r ⊎ (r ≡ Err BadSyntax)) (sym read) (line-reads c.args.version c.args.line.now)

pub returns-clause-only : goal.returns-clause-only
returns-clause-only c =
    let fits : SFits w32 c.args.version = search rules in
    let read = simp to_z-of_z at c.read.ensures in
    λ said h. read ∙ line-spelled c.args.version c.args.line.now said h
