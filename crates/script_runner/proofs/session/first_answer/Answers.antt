use Rattle.std.proofs.Common.{◌≡◌, Bool, Result, sym, subst}
use Rattle.tb_geom.specs.declared.refusal.Refusal.{Refusal}
use Rattle.desk_toolbox.specs.ToolboxStates.{ToolboxState}
use Rattle.script_text.specs.declared.command.Command.{Command}
use Rattle.script_text.specs.declared.command.Command.TheVariants.{Version, Image}
use Rattle.watched_io.specs.Writes.{Output}
use Rattle.script_runner.specs.Endings.{IsAnswered, IsFirstAnswered}
use Rattle.script_runner.proofs.session.first_answer.Goals as goal

-- on the desk that it made, a version is answered as on any
version_first : {X : Type 0} (raw : Bool) (s : ToolboxState) (command : Command) (after : ToolboxState) (old new : Output) (r : Result X Refusal) (n : _)
    → command ≡ Version n → IsAnswered raw s command after old new r → IsFirstAnswered raw s command after old new r
version_first {X = X} raw s command after old new r n is answered =
    subst (λ c. IsAnswered {X = X} raw s c after old new r → IsFirstAnswered {X = X} raw s c after old new r) (sym is) (λ h. h) answered

-- and so is the image
image_first : {X : Type 0} (raw : Bool) (s : ToolboxState) (command : Command) (after : ToolboxState) (old new : Output) (r : Result X Refusal)
    → command ≡ Image → IsAnswered raw s command after old new r → IsFirstAnswered raw s command after old new r
image_first {X = X} raw s command after old new r is answered =
    subst (λ c. IsAnswered {X = X} raw s c after old new r → IsFirstAnswered {X = X} raw s c after old new r) (sym is) (λ h. h) answered

pub returns-in-Version-clause-answered : goal.returns-in-Version-clause-answered
returns-in-Version-clause-answered g c = version_first _ _ _ _ _ _ _ _ c.in-Version.is c.answer_on.ensures.answered

pub returns-in-Image-clause-answered : goal.returns-in-Image-clause-answered
returns-in-Image-clause-answered g c = image_first _ _ _ _ _ _ _ c.in-Image.is c.answer_on-in-Image.ensures.answered
