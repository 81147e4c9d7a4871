use Rattle.std.proofs.Common.{◌≡◌, ◌≤◌, ◌+◌, ◌*◌, drop}
use Rattle.desk_ground.specs.Bars.{title_at}
use Rattle.desk_ground.proofs.bar.title_at.Given as goal

abbrev pub invariant-loop-title : goal.invariant-loop-title
invariant-loop-title l = record {
  rest : title_at l.font 10 l.titles l.point ≡ title_at l.font l.left (drop l.title-index l.titles) l.point;
  near : l.left ≤ 10 + 65041 * l.title-index;
}
