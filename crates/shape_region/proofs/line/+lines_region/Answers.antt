use Rattle.std.proofs.Common.{◌∙◌, ◌||◌, ◌<◌, ◌-◌, pos, length, take, drop, sym, ap, arith, rules}
use Rattle.std.specs.List.{list_all}
use Rattle.std.proofs.lemmas.Result.{IfOk-weaker}
use Rattle.shape_strips.specs.Lines.{pen_fits}
use Rattle.shape_region.specs.Polygons.{some_line}
use Rattle.shape_region.proofs.PolygonLemmas.{parted_at, all_parts, lines_split}
use Rattle.shape_region.proofs.line.+lines_region.Goals as goal

pub lines_region-requires : goal.lines_region-requires
lines_region-requires t c =
    let whole = parted_at c.args.others.now c.split_at.result.0.now c.split_at.result.1.now _ (record { h = pos 0; v = pos 0 }) c.split_at.ensures.front c.split_at.ensures.back c.in-len1-up.len_at_least in
    let parts = all_parts (pen_fits c.args.pen) c.split_at.result.0.now _ _ (sym (ap (list_all (pen_fits c.args.pen)) whole) ∙ c.requires.others_in) in
    let few : length c.split_at.result.0.now < length c.args.others.now = omega arith in
    (omega arith, (c.requires.from_in, (parts.0, parts.1.0)))

pub lines_region-requires-2 : goal.lines_region-requires-2
lines_region-requires-2 t c =
    let whole = parted_at c.args.others.now c.split_at.result.0.now c.split_at.result.1.now _ (record { h = pos 0; v = pos 0 }) c.split_at.ensures.front c.split_at.ensures.back c.in-len1-up.len_at_least in
    let parts = all_parts (pen_fits c.args.pen) c.split_at.result.0.now _ _ (sym (ap (list_all (pen_fits c.args.pen)) whole) ∙ c.requires.others_in) in
    let few : length (take (length c.split_at.result.1.now - 1) (drop 1 c.split_at.result.1.now)) < length c.args.others.now = search rules in
    (omega arith, (parts.1.0, (parts.1.1, c.requires.to_in)))

pub returns : goal.returns
returns t c =
    let whole = parted_at c.args.others.now c.split_at.result.0.now c.split_at.result.1.now _ (record { h = pos 0; v = pos 0 }) c.split_at.ensures.front c.split_at.ensures.back c.in-len1-up.len_at_least in
    let first = c.in_ok-first.ensures in
    let second = c.in_ok-second.ensures in
    IfOk-weaker c.union.result _ _
    (λ region same p. same p ∙ (λ i. first p i || second p i)
    ∙ sym (lines_split c.args.from _ _ _ c.args.to c.args.pen p)
    ∙ ap (λ xs. some_line c.args.from xs c.args.to c.args.pen p) (sym whole))
    c.union.ensures
