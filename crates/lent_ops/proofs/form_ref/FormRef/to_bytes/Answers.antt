use Rattle.std.proofs.lemmas.Result.{MatchResult-weaker}
use Rattle.tb_geom.specs.Points.{PixelSet}
use Rattle.shape_strips.specs.Rounds.{round_holds}
use Rattle.shape_strips.specs.Frames.{frame_holds}
use Rattle.shape_strips.specs.Lines.{line_holds}
use Rattle.shape_region.specs.Polygons.{frame_polygon_holds, polygon_holds}
use Rattle.shape_arcs.specs.Wedges.{arc_holds, frame_arc_holds}
use Rattle.lent_ops.specs.Forms.{form_holds}
use Rattle.lent_ops.specs.Points.{points_of}
use Rattle.lent_ops.proofs.FormLemmas.{told_as, not_told_as}
use Rattle.lent_ops.proofs.form_ref.FormRef.to_bytes.Goals as goal

pub returns-in-Painted : goal.returns-in-Painted
returns-in-Painted c =
    let s : PixelSet = round_holds c.in-Painted.strip.rect c.in-Painted.strip.corner in
    MatchResult-weaker c.form_bytes.result c.form_bytes.ensures
    (λ bytes told. told_as s (form_holds c.args.self.now) c.in-Painted.ensures bytes.items told)
    (λ e why. not_told_as s (form_holds c.args.self.now) c.in-Painted.ensures e why)

pub returns-in-Framed : goal.returns-in-Framed
returns-in-Framed c =
    let s : PixelSet = frame_holds c.in-Framed.frame.rect c.in-Framed.frame.corner c.in-Framed.frame.pen in
    MatchResult-weaker c.form_bytes-in-Framed.result c.form_bytes-in-Framed.ensures
    (λ bytes told. told_as s (form_holds c.args.self.now) c.in-Framed.ensures bytes.items told)
    (λ e why. not_told_as s (form_holds c.args.self.now) c.in-Framed.ensures e why)

pub returns-in-Drawn : goal.returns-in-Drawn
returns-in-Drawn c =
    let s : PixelSet = line_holds c.in-Drawn.line.from c.in-Drawn.line.to c.in-Drawn.line.pen in
    MatchResult-weaker c.form_bytes-in-Drawn.result c.form_bytes-in-Drawn.ensures
    (λ bytes told. told_as s (form_holds c.args.self.now) c.in-Drawn.ensures bytes.items told)
    (λ e why. not_told_as s (form_holds c.args.self.now) c.in-Drawn.ensures e why)

pub returns-in-Filled : goal.returns-in-Filled
returns-in-Filled c =
    let s : PixelSet = polygon_holds (points_of c.in-Filled.polygon.bytes.now) in
    MatchResult-weaker c.told.result c.told.ensures
    (λ bytes told. told_as s (form_holds c.args.self.now) c.in-Filled.ensures bytes.items told)
    (λ e why. not_told_as s (form_holds c.args.self.now) c.in-Filled.ensures e why)

pub returns-in-Outlined : goal.returns-in-Outlined
returns-in-Outlined c =
    let s : PixelSet = frame_polygon_holds (points_of c.in-Outlined.frame.bytes.now) c.in-Outlined.frame.pen in
    MatchResult-weaker c.told-in-Outlined.result c.told-in-Outlined.ensures
    (λ bytes told. told_as s (form_holds c.args.self.now) c.in-Outlined.ensures bytes.items told)
    (λ e why. not_told_as s (form_holds c.args.self.now) c.in-Outlined.ensures e why)

pub returns-in-Wedge : goal.returns-in-Wedge
returns-in-Wedge c =
    let s : PixelSet = arc_holds c.in-Wedge.arc.rect c.in-Wedge.arc.start c.in-Wedge.arc.angle in
    MatchResult-weaker c.form_bytes-in-Wedge.result c.form_bytes-in-Wedge.ensures
    (λ bytes told. told_as s (form_holds c.args.self.now) c.in-Wedge.ensures bytes.items told)
    (λ e why. not_told_as s (form_holds c.args.self.now) c.in-Wedge.ensures e why)

pub returns-in-FramedWedge : goal.returns-in-FramedWedge
returns-in-FramedWedge c =
    let s : PixelSet = frame_arc_holds c.in-FramedWedge.frame.rect c.in-FramedWedge.frame.start c.in-FramedWedge.frame.angle c.in-FramedWedge.frame.pen in
    MatchResult-weaker c.pixel_bytes.result c.pixel_bytes.ensures
    (λ bytes told. told_as s (form_holds c.args.self.now) c.in-FramedWedge.ensures bytes.items told)
    (λ e why. not_told_as s (form_holds c.args.self.now) c.in-FramedWedge.ensures e why)
