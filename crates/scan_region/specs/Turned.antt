-- Spans that are turned by half a turn.
use Rattle.std.specs.Prelude.{negsuc, pos, ◌-ℤ◌}
use Rattle.region_rows.specs.Hull.{IsFromTo}
use Rattle.scan_region.specs.declared.spans.Span.{Span}

-- the span that is seen as another
abbrev pub turned : Span → Span
turned s = record { v = negsuc 1 -ℤ s.v; left = negsuc 0 -ℤ s.right; right = negsuc 0 -ℤ s.left }

-- the span lies in the plane
abbrev pub IsNear : Span → Type 0
IsNear s = IsFromTo (negsuc 16384) (pos 16384) s.v × IsFromTo (negsuc 16384) (pos 16384) s.left × IsFromTo (negsuc 16384) (pos 16384) s.right
