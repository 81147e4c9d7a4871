use Rattle.std.proofs.Common.{◌∙◌, ap}
use Rattle.region_bytes.specs.Edges.{differ}
use Rattle.region_bytes.specs.Points.{inverted}
use Rattle.region_bytes.proofs.Pointed.{inside_more, inside_all}
use Rattle.region_bytes.proofs.region.RegionBytes.contains.Goals as goal

pub loop-p-preserved : goal.loop-p-preserved
loop-p-preserved c =
    let turned = c.differ-inside.ensures ∙ ap (λ b. differ b c.loop-p.inside) c.leads_to.ensures in
    record { told = ap (λ b. differ b (inverted c.next.new.self c.args.point)) turned ∙ inside_more c.in-Some.p c.args.point c.loop-p.p-iterator c.next.new.self c.loop-p.inside _ c.in-Some.ensures.steps c.loop-p.invariant.told }

pub returns : goal.returns
returns c = inside_all c.args.point c.loop-p.p-iterator c.loop-p.inside _ c.in-None.ensures.steps.0 c.loop-p.invariant.told
