use Rattle.std.proofs.Common.{◌∙◌, sym, ap, subst}
use Rattle.std.proofs.lemmas.Result.{IfOk-weaker}
use Rattle.region_bytes.specs.Forms.{IsFormOf, IsRowsOf, IsRectOf}
use Rattle.region_bytes.specs.Points.{in_rows}
use Rattle.region_bytes.proofs.Rows.{inverted-points_of}
use Rattle.region_rows.specs.Rows.{AreRows}
use Rattle.region_rows.proofs.restore.form_rows.Goals as goal

pub restored_rows-requires : goal.restored_rows-requires
restored_rows-requires c =
    let s = c.requires.0 in
    let form : IsRowsOf s c.in-Rows.bytes.now = subst (IsFormOf s) c.in-Rows.is c.requires.1 in
    record { points = form.rows; canonical = form.canonical; in_range = form.in_range; written = form.written }

pub rect_rows-requires : goal.rect_rows-requires
rect_rows-requires c =
    let s = c.requires.0 in
    let form : IsRectOf s c.in-Rect.rect = subst (IsFormOf s) c.in-Rect.is c.requires.1 in
    form.in_range

pub returns-in-Rect-clause-pixels : goal.returns-in-Rect-clause-pixels
returns-in-Rect-clause-pixels c =
    IfOk-weaker c.rect_rows.result _ _ (λ rows pixels s form h v.
    let here : IsRectOf s c.in-Rect.rect = subst (IsFormOf s) c.in-Rect.is form in
    pixels h v ∙ sym (here.pixels (record { h = h; v = v }))) c.rect_rows.ensures.pixels

pub returns-in-Rows-clause-rows : goal.returns-in-Rows-clause-rows
returns-in-Rows-clause-rows c =
    let s = c.requires.0 in
    let form : IsRowsOf s c.in-Rows.bytes.now = subst (IsFormOf s) c.in-Rows.is c.requires.1 in
    IfOk-weaker c.restored_rows.result _ _ (λ rows same. subst AreRows (sym (same form.rows form.in_range form.written)) (record { canonical = form.canonical; in_range = form.in_range })) c.restored_rows.ensures

pub returns-in-Rows-clause-pixels : goal.returns-in-Rows-clause-pixels
returns-in-Rows-clause-pixels c =
    IfOk-weaker c.restored_rows.result _ _ (λ rows same s f h v.
    let form : IsRowsOf s c.in-Rows.bytes.now = subst (IsFormOf s) c.in-Rows.is f in
    ap (λ l. in_rows l h v) (same form.rows form.in_range form.written) ∙ sym (inverted-points_of form.rows (record { h = h; v = v })) ∙ sym (form.pixels (record { h = h; v = v }))) c.restored_rows.ensures
