-- Structure, content and box of the rounded window.
use Rattle.std.proofs.Common.{◌≡◌, true, arith}
use Rattle.std.proofs.lemmas.Int.{ints}
use Rattle.std.proofs.lemmas.Bool.{and_parts}
use Rattle.tb_geom.specs.Rects.{IsBoxOf, rect_holds}
use Rattle.shape_strips.specs.Frames.{inside_holds}
use Rattle.def_iface.specs.declared.size.Size.{Size}
use Rattle.def_iface.specs.Sizes.{is_size, rect_of}
use Rattle.def_iface.specs.WindowMeaning.{IsWithin}
use Rattle.std_wdef.specs.Looks.{document_box}
use Rattle.std_wdef.specs.Rounded.{frame_pen, round_content, round_structure, window_corner}
use Rattle.std_wdef.proofs.AreaFacts.{size_some}
use Rattle.std_wdef.proofs.RoundBoxes.{inside_within_round, round_box}

-- the box of the structure is exact
pub round_exact : (s : Size) → is_size s ≡ true → IsBoxOf (document_box s) (round_structure s)
round_exact s e = let n = size_some s e in round_box (document_box s) (omega (arith, ints)) (omega (arith, ints))

-- the content lies in the structure
pub content_within : (s : Size) → IsWithin (round_content s) (round_structure s)
content_within s p e =
    inside_within_round (document_box s) window_corner frame_pen p
    (and_parts (rect_holds (rect_of s) p) (inside_holds (document_box s) window_corner frame_pen p) e).1
