use Rattle.std.proofs.Common.{◌≡◌, true, length, map, take}
use Rattle.std.specs.List.{list_all}
use Rattle.tb_geom.specs.Rects.{is_in_range}
use Rattle.window_outline.specs.Outlining.{moved_line}
use Rattle.window_outline.proofs.lines.moved_lines.Given as goal

abbrev pub invariant-loop-at : goal.invariant-loop-at
invariant-loop-at l = record {
  long : length l.moved ≡ 8;
  moved : take l.at l.moved ≡ map (moved_line l.place) (take l.at l.lines);
  in_range : list_all is_in_range (take l.at l.moved) ≡ true;
}
