use Rattle.std.proofs.Common.{SFits, w32, subst, ◌∙◌, rules}
use Rattle.std.proofs.lemmas.Int.{to_z-of_z}
use Rattle.std.proofs.lemmas.Result.{MatchResult-weaker}
use Rattle.lent_ops.specs.Asked.{IsGoodRegion}
use Rattle.lent_ops.specs.declared.region_ref.RegionRef.TheVariants.{Form, Rgn, Offset, Inset, FrameRgn, Combined}
use Rattle.lent_ops.proofs.AskLemmas.{are_told, told_of, untold_of, want_of_memory}
use Rattle.lent_ops.proofs.region_ref.RegionRef.to_bytes.Goals as goal

pub moved_bytes-requires-clause-stays : goal.moved_bytes-requires-clause-stays
moved_bytes-requires-clause-stays c =
    let across : SFits w32 c.in-Offset.distance.dh = search rules in
    let down : SFits w32 c.in-Offset.distance.dv = search rules in
    let good = subst IsGoodRegion c.in-Offset.is c.in_ok-judge.ensures in
    rw (c.read.ensures, to_z-of_z w32 c.in-Offset.distance.dh across, to_z-of_z w32 c.in-Offset.distance.dv down) good.near.1

pub inset_bytes-requires-clause-in_range : goal.inset_bytes-requires-clause-in_range
inset_bytes-requires-clause-in_range c =
    let across : SFits w32 c.in-Inset.distance.dh = search rules in
    let down : SFits w32 c.in-Inset.distance.dv = search rules in
    let good = subst IsGoodRegion c.in-Inset.is c.in_ok-judge.ensures in
    rw (c.read-in-Inset.ensures, to_z-of_z w32 c.in-Inset.distance.dh across, to_z-of_z w32 c.in-Inset.distance.dv down) good.near.1

pub read-requires-in-Combined : goal.read-requires-in-Combined
read-requires-in-Combined c = (subst IsGoodRegion c.in-Combined.is c.in_ok-judge.ensures).regions.0

pub read-requires-in-Combined-2 : goal.read-requires-in-Combined-2
read-requires-in-Combined-2 c = (subst IsGoodRegion c.in-Combined.is c.in_ok-judge.ensures).regions.1

pub returns-in-Form : goal.returns-in-Form
returns-in-Form c =
    let is = c.in-Form.is in
    MatchResult-weaker c.to_bytes.result c.to_bytes.ensures
    (λ bytes told. told_of c.args.self.now (Form c.in-Form.form) bytes.items is c.in_ok-judge.ensures told)
    (λ e why. untold_of c.args.self.now (Form c.in-Form.form) e is c.in_ok-judge.ensures why)

pub returns-in-Rgn : goal.returns-in-Rgn
returns-in-Rgn c =
    let is = c.in-Rgn.is in
    let region = (subst IsGoodRegion is c.in_ok-judge.ensures).regions in
    MatchResult-weaker c.copied.result c.copied.ensures
    (λ copy same. told_of c.args.self.now (Rgn c.in-Rgn.bytes) copy.items is c.in_ok-judge.ensures (are_told c.in-Rgn.bytes copy.items region (same ∙ c.as_slice.ensures)))
    (λ e why. untold_of c.args.self.now (Rgn c.in-Rgn.bytes) e is c.in_ok-judge.ensures (want_of_memory c.in-Rgn.bytes e region why))

pub returns-in-Offset : goal.returns-in-Offset
returns-in-Offset c =
    let across : SFits w32 c.in-Offset.distance.dh = search rules in
    let down : SFits w32 c.in-Offset.distance.dv = search rules in
    let is = c.in-Offset.is in
    let told = rw (c.read.ensures, to_z-of_z w32 c.in-Offset.distance.dh across, to_z-of_z w32 c.in-Offset.distance.dv down) at c.moved_bytes.ensures in
    MatchResult-weaker c.moved_bytes.result told
    (λ bytes so. told_of c.args.self.now (Offset c.in-Offset.bytes c.in-Offset.distance) bytes.items is c.in_ok-judge.ensures so)
    (λ e why. untold_of c.args.self.now (Offset c.in-Offset.bytes c.in-Offset.distance) e is c.in_ok-judge.ensures why)

pub returns-in-Combined : goal.returns-in-Combined
returns-in-Combined c =
    let is = c.in-Combined.is in
    let told = rw (c.read-in-Combined.ensures, c.read-in-Combined-2.ensures) at c.combined_bytes.ensures in
    MatchResult-weaker c.combined_bytes.result told
    (λ bytes so. told_of c.args.self.now (Combined c.in-Combined.how c.in-Combined.first c.in-Combined.second) bytes.items is c.in_ok-judge.ensures so)
    (λ e why. untold_of c.args.self.now (Combined c.in-Combined.how c.in-Combined.first c.in-Combined.second) e is c.in_ok-judge.ensures why)

pub returns-in-Inset : goal.returns-in-Inset
returns-in-Inset c =
    let across : SFits w32 c.in-Inset.distance.dh = search rules in
    let down : SFits w32 c.in-Inset.distance.dv = search rules in
    let is = c.in-Inset.is in
    let told = rw (c.read-in-Inset.ensures, to_z-of_z w32 c.in-Inset.distance.dh across, to_z-of_z w32 c.in-Inset.distance.dv down) at c.inset_bytes.ensures in
    MatchResult-weaker c.inset_bytes.result told
    (λ bytes so. told_of c.args.self.now (Inset c.in-Inset.bytes c.in-Inset.distance) bytes.items is c.in_ok-judge.ensures so)
    (λ e why. untold_of c.args.self.now (Inset c.in-Inset.bytes c.in-Inset.distance) e is c.in_ok-judge.ensures why)

pub returns-in-FrameRgn : goal.returns-in-FrameRgn
returns-in-FrameRgn c =
    let is = c.in-FrameRgn.is in
    let told = rw (c.read-in-FrameRgn.ensures, c.to_pen.ensures) at c.frame_region_bytes.ensures in
    MatchResult-weaker c.frame_region_bytes.result told
    (λ bytes so. told_of c.args.self.now (FrameRgn c.in-FrameRgn.bytes c.in-FrameRgn.pen) bytes.items is c.in_ok-judge.ensures so)
    (λ e why. untold_of c.args.self.now (FrameRgn c.in-FrameRgn.bytes c.in-FrameRgn.pen) e is c.in_ok-judge.ensures why)
