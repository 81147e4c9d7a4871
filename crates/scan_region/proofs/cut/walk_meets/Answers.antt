use Rattle.std.proofs.Common.{refl}
use Rattle.std.proofs.lemmas.Bool.{false≢true}
use Rattle.scan_region.specs.Cuts.{cut_holds}
use Rattle.scan_region.proofs.Scanned.{none_meet, some_meets}
use Rattle.scan_region.proofs.cut.walk_meets.Goals as goal

pub returns-in-Some : goal.returns-in-Some
returns-in-Some c =
    (λ t. some_meets c.spans_within-spans.result c.next.new.self c.in-Some.field-0 c.args.region.now c.args.area (cut_holds c.alone.result) c.spans_within-spans.ensures c.in-Some.ensures.steps c.alone.ensures, λ m. refl)

pub returns : goal.returns
returns c =
    (λ t. absurd (false≢true t), λ m. absurd (none_meet c.spans_within-spans.result c.args.region.now c.args.area (cut_holds c.alone.result) c.spans_within-spans.ensures c.in_default.ensures.steps.0 c.alone.ensures m.0 m.1 m.2))
