use Rattle.script_runner.specs.Script.{first_state}
use Rattle.script_runner.proofs.RawRuns.{written_images}
use Rattle.script_runner.proofs.laws.raw_runs_write_images_alone.Goals as goal

pub returns : goal.returns
returns c = λ font stocks lines text state. written_images (first_state font stocks) lines text state
