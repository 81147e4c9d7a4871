use Rattle.std.proofs.Common.{take}
use Rattle.menu_record.specs.Reads.{IsRead, read_all}
use Rattle.menu_record.proofs.reading.read_item.Given as goal

abbrev pub invariant-loop-character : goal.invariant-loop-character
invariant-loop-character l = IsRead (read_all (take l.character-index l.piece)) l.reading
