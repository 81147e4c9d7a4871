-- What a standard control shows once it was told of a change.
use Rattle.std.proofs.Common.{◌≡◌, ℕ, ℤ, Bool, true, List, Option, refl, sym, ap, ◌∙◌}
use Rattle.std.specs.Str.{bytes_eq}
use Rattle.std.proofs.lemmas.Slice.Eq.{bytes_eq-Decides}
use Rattle.tb_geom.specs.declared.point.Point.{Point}
use Rattle.tb_geom.specs.Points.{PixelSet}
use Rattle.control_values.specs.declared.part.ControlPart.{ControlPart}
use Rattle.def_iface.specs.declared.control_keeping.KeptControl.{KeptControl}
use Rattle.def_iface.specs.declared.control_def.ControlChange.{ControlChange}
use Rattle.def_iface.specs.ControlNews.{told_control}
use Rattle.def_iface.specs.ControlMeaning.{ControlHears}
use Rattle.def_iface.proofs.KeptControlLemmas.{kept_control_hears}
use Rattle.looks.specs.Letters.{lettering}
use Rattle.std_cdef.specs.declared.control.StdControl.{StdControl}
use Rattle.std_cdef.specs.Told.{std_meaning, told_std}

module _ {L : Type 0} (seen : L → KeptControl → List ℕ → PixelSet) (part : L → KeptControl → Point → Option ControlPart) (value : L → KeptControl → Point → Point → ℤ)
    (damaged : L → KeptControl → KeptControl → PixelSet) where
  -- nothing that it is told is forgotten
  pub std_hears : (change : ControlChange) (b : StdControl L) → ControlHears (told_control change) (std_meaning seen part value damaged b) (std_meaning seen part value damaged (told_std change b))
  std_hears change b =
      kept_control_hears (seen b.look) (part b.look) (value b.look) (damaged b.look) b.kept change (std_meaning seen part value damaged b) (std_meaning seen part value damaged (told_std change b))
      refl refl refl refl refl refl refl refl

-- titles that are the same are written the same
pub same_letters : (font old new : List ℕ) (same : Bool) → same ≡ bytes_eq old new → same ≡ true → lettering font new ≡ lettering font old
same_letters font old new same is e = ap (lettering font) (sym ((bytes_eq-Decides old new).0 (sym is ∙ e)))
