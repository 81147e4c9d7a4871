use Rattle.pixel_rows.proofs.BoxLemmas.{rect_bounds, rect_box, rows_bounds}
use Rattle.pixel_rows.proofs.reading.region_bounds.Goals as goal

pub returns-in-Rect-clause-bounds : goal.returns-in-Rect-clause-bounds
returns-in-Rect-clause-bounds c = rect_bounds c.args.region.now c.in-Rect.rect c.in-Rect.ensures

pub returns-in-Rect-clause-exact : goal.returns-in-Rect-clause-exact
returns-in-Rect-clause-exact c = rect_box c.args.region.now c.in-Rect.rect c.in-Rect.ensures

pub returns-in-Rows-clause-bounds : goal.returns-in-Rows-clause-bounds
returns-in-Rows-clause-bounds c = rows_bounds c.args.region.now _ _ c.in-Rows.ensures c.bbox.ensures.exact c.bbox.ensures.none
