use Rattle.std.proofs.Common.{[], sym, refl, ◌∙◌}
use Rattle.std.proofs.lemmas.Int.{to_z-of_z}
use Rattle.region_bytes.proofs.Edges.{IsRow-nil}
use Rattle.region_rows.proofs.Edges.{none_in, OnOk-weaker}
use Rattle.region_rows.proofs.Beside.{kept_beside}
use Rattle.region_rows.proofs.merge.push_part.Goals as goal

pub returns-in-Shared : goal.returns-in-Shared
returns-in-Shared c =
    record { points = []; pixels = rw c.in-Shared.is (λ h. none_in [] h refl ∙ sym (c.is_beside.ensures.apart c.if-not-is_beside.false h)); row = IsRow-nil; pushed = refl }

pub returns-in-Alone : goal.returns-in-Alone
returns-in-Alone c =
    let fits_v = c.ranges.v in
    let pushed = simp to_z-of_z at c.push_row.ensures in
    OnOk-weaker c.push_row.result _ _ (λ e. record { points = c.args.points.now; pixels = λ h. kept_beside _ _ _ c.in-Alone.is (c.is_beside.ensures.apart c.if-not-is_beside.false h); row = c.requires.points; pushed = e }) pushed
