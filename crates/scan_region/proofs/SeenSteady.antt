-- Columns of a region, as it is seen, that are the same in each row, and how many are left.
use Rattle.std.proofs.Common.{◌≡◌, Bool, true, false, List, ℤ, negsuc, ◌-ℤ◌, ◌<◌, ◌≤ℤ◌, ◌<ℤ◌, sym, ◌∙◌, arith}
use Rattle.std.proofs.lemmas.Int.{ints}
use Rattle.tb_geom.specs.Pixels.{Pixels, holds}
use Rattle.region_bytes.specs.Points.{in_rows}
use Rattle.region_rows.specs.Columns.{seen_column}
use Rattle.region_rows.specs.Counts.{count_to}
use Rattle.region_rows.specs.Rows.{EdgeRow}
use Rattle.region_rows.specs.Seen.{seen_point}
use Rattle.region_rows.proofs.Counts.{count-is}

pub seen_steady : (up : Bool) (rows : List EdgeRow) (s : Pixels) (x h v : ℤ) → ((g w : ℤ) → holds s (record { h = g; v = w }) ≡ in_rows rows g w)
    → ((w : ℤ) → in_rows rows (seen_column up x) w ≡ in_rows rows (seen_column up h) w) → holds s (seen_point up (record { h = x; v = v })) ≡ holds s (seen_point up (record { h = h; v = v }))
seen_steady false rows s x h v e same = e x v ∙ same v ∙ sym (e h v)
seen_steady true rows s x h v e same = e (negsuc 1 -ℤ x) (negsuc 1 -ℤ v) ∙ same (negsuc 1 -ℤ v) ∙ sym (e (negsuc 1 -ℤ h) (negsuc 1 -ℤ v))

-- further on, fewer columns are left
pub fewer : (x next limit : ℤ) → x <ℤ next → next ≤ℤ limit → count_to next limit < count_to x limit
fewer x next limit a b =
    let p = count-is x limit (omega (arith, ints)) in
    let q = count-is next limit b in
    omega (arith, ints)
