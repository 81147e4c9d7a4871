use Rattle.std.proofs.Common.{sym, ◌∙◌, subst, refl, inr}
use Rattle.std.proofs.lemmas.Result.{err_from_is_err_and}
use Rattle.tb_geom.proofs.PixelsLemmas.{same_pixels}
use Rattle.region_bytes.specs.Bytes.{IsRegionBytes}
use Rattle.scan_region.proofs.region.Region.from_bytes.Goals as goal

pub returns-in_err-rows : goal.returns-in_err-rows
returns-in_err-rows c =
    let p = err_from_is_err_and c.from_residual-in_err-rows.result c.from_residual-in_err-rows.ensures.1 in
    rw (p.1, p.2) (inr (refl, (c.in_ok-read.read, c.in_ok-read.ensures)))

pub returns : goal.returns
returns c =
    let s = c.in_ok-read.read in
    subst (IsRegionBytes c.args.bytes.now)
    (sym (same_pixels c.of_rows.result s (λ h v. c.of_rows.ensures h v ∙ c.in_ok-rows.ensures.pixels s c.form.ensures h v)))
    c.in_ok-read.ensures
