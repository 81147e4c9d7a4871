-- The rectangle of a control.
use Rattle.std.proofs.Common.{◌≡◌, true, false, arith}
use Rattle.std.proofs.lemmas.Int.{ints}
use Rattle.tb_geom.specs.Rects.{IsBoxOf, rect_holds, is_empty_rect, empty_rect}
use Rattle.def_iface.specs.declared.size.Size.{Size}
use Rattle.def_iface.specs.Sizes.{rect_of}
use Rattle.def_iface.specs.ControlMeaning.{is_control_size}

-- it is the box of its pixels
pub exact : (s : Size) → IsBoxOf (rect_of s) (rect_holds (rect_of s))
exact s = record { holds = λ p e. e; smallest = λ q around p e. around p e }

-- it has a pixel
some : (s : Size) → is_control_size s ≡ true → is_empty_rect (rect_of s) ≡ false
some s e = grind (arith, ints)

pub none : (s : Size) → is_control_size s ≡ true → is_empty_rect (rect_of s) ≡ true → rect_of s ≡ empty_rect
none s e empty = absurd (cc (some s e))
