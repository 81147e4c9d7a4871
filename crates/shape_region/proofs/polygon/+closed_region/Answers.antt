use Rattle.std.proofs.Common.{◌≡◌, ◌∙◌, ◌<◌, ◌+◌, ◌-◌, ◌/◌, suc, length, take, drop, sym, arith, rules}
use Rattle.std.proofs.lemmas.List.{take_rest}
use Rattle.std.proofs.lemmas.Result.{IfOk-weaker}
use Rattle.tb_geom.specs.Rects.{in_plane}
use Rattle.region_rows.specs.Edges.{differ}
use Rattle.shape_region.specs.Polygons.{odd_edges}
use Rattle.shape_region.proofs.CrossLemmas.{all_taken, all_dropped, parted_by_chord}
use Rattle.shape_region.proofs.polygon.+closed_region.Goals as goal

pub closed_region-requires : goal.closed_region-requires
closed_region-requires t c =
    let xs = c.args.others.now in
    let few : length (take (length xs / 2 + 1) xs) < length xs = search rules in
    (omega arith, (c.requires.first_in, all_taken in_plane xs (length xs / 2 + 1) c.requires.others_in))

pub closed_region-requires-2 : goal.closed_region-requires-2
closed_region-requires-2 t c =
    let xs = c.args.others.now in
    let few : length (take (length xs - length xs / 2) (drop (length xs / 2) xs)) < length xs = search rules in
    (omega arith, (c.requires.first_in, all_taken in_plane (drop (length xs / 2) xs) (length xs - length xs / 2) (all_dropped in_plane xs (length xs / 2) c.requires.others_in)))

pub returns : goal.returns
returns t c =
    let xs = c.args.others.now in
    let m = length xs / 2 in
    let next : m + 1 ≡ suc m = omega arith in
    let here : m < length xs = search rules in
    let first = c.in_ok-before.ensures in
    let second = c.in_ok-after.ensures in
    IfOk-weaker c.xor.result _ _
    (λ region same p. same p ∙ (λ i. differ (first p i) (second p i))
    ∙ (λ i. differ (odd_edges c.args.first (take (next i) xs) c.args.first p) (odd_edges c.args.first (take_rest xs m i) c.args.first p))
    ∙ sym (parted_by_chord c.args.first xs m c.args.first p here))
    c.xor.ensures
