-- Which kinds of window have what.
use Rattle.std.specs.Prelude.{ℕ, Bool, true, false, ◌&&◌, nat_lt, List, length}
use Rattle.def_iface.specs.declared.keeping.Flags.{Flags}
use Rattle.std_wdef.specs.declared.kind.Variation.{Variation}
use Rattle.std_wdef.specs.declared.kind.Variation.TheVariants.{Document, Shadow, NoGrow, Zoom}

abbrev pub is_document : Variation → Bool
is_document Document = true
is_document NoGrow = true
is_document Zoom = true
is_document _ = false

abbrev pub has_size_box : Variation → Bool
has_size_box Document = true
has_size_box Zoom = true
has_size_box _ = false

abbrev pub has_zoom_box : Variation → Bool
has_zoom_box Zoom = true
has_zoom_box _ = false

abbrev pub is_shadow : Variation → Bool
is_shadow Shadow = true
is_shadow _ = false

-- it shows a go-away box: document kinds do, where they are highlighted
abbrev pub closes : Variation → Flags → Bool
closes v f = is_document v && (f.highlighted && f.go_away)

-- and that is tracked, with the point inside
abbrev pub tracks : Variation → Flags → Bool
tracks v f = closes v f && f.tracked

-- it shows a zoom box
abbrev pub zooms : Variation → Flags → Bool
zooms v f = has_zoom_box v && f.highlighted

-- its size box is one that can be used
abbrev pub grows : Variation → Flags → Bool
grows v f = has_size_box v && f.highlighted

-- the title is not empty
abbrev pub is_titled : List ℕ → Bool
is_titled title = nat_lt 0 (length title)
