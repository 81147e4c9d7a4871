use Rattle.std.proofs.Common.{List, ap, ◌∙◌, sym, subst}
use Rattle.tb_geom.specs.declared.point.Point.{Point}
use Rattle.region_bytes.specs.Points.{inverted}
use Rattle.region_bytes.specs.Points.{IsDown}
use Rattle.region_bytes.proofs.Pointed.{rect_points, rect_down, rows_points, rows_down}
use Rattle.region_bytes.proofs.region.RegionBytes.points.Goals as goal

pub returns-in-Rect-clause-pixels : goal.returns-in-Rect-clause-pixels
returns-in-Rect-clause-pixels c = λ p. ap (λ (ps : List Point). inverted ps p) c.of_rect.ensures ∙ rect_points c.args.self.now c.in-Rect.rect c.in-Rect.ensures p

pub returns-in-Rect-clause-down : goal.returns-in-Rect-clause-down
returns-in-Rect-clause-down c = subst IsDown (sym c.of_rect.ensures) (rect_down c.args.self.now c.in-Rect.rect c.in-Rect.ensures)

pub returns-in-Rows-clause-pixels : goal.returns-in-Rows-clause-pixels
returns-in-Rows-clause-pixels c = λ p. ap (λ (ps : List Point). inverted ps p) c.of_data.ensures ∙ rows_points c.args.self.now c.in-Rows.bytes.now c.in-Rows.ensures p

pub returns-in-Rows-clause-down : goal.returns-in-Rows-clause-down
returns-in-Rows-clause-down c = subst IsDown (sym c.of_data.ensures) (rows_down c.args.self.now c.in-Rows.bytes.now c.in-Rows.ensures)
