use Rattle.std.proofs.lemmas.Result.{MatchResult-weaker}
use Rattle.pixel_rows.proofs.ToldLemmas.{told, not_told}
use Rattle.shape_region.proofs.writing.form_bytes.Goals as goal

pub finish-requires : goal.finish-requires
finish-requires g c =
    let w = c.written_rows.ensures in
    record { rows = w.rows; canonical = w.are_rows.canonical; in_range = w.are_rows.in_range; written = w.written }

pub returns : goal.returns
returns g c =
    let w = c.written_rows.ensures in
    MatchResult-weaker c.finish.result (c.finish.ensures w.rows w.written w.are_rows.canonical)
    (λ bytes done. told (g.R.Rows.pixels c.args.form.now) w.rows w.are_rows w.pixels _ done.0 done.1)
    (λ e why. not_told (g.R.Rows.pixels c.args.form.now) w.rows w.are_rows w.pixels e why)
