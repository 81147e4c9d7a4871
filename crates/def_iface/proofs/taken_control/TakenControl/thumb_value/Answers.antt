use Rattle.std.proofs.Common.{◌≡◌, true, refl, sym, subst}
use mathlib.Core.List.{mem-append_right}
use Rattle.def_iface.specs.declared.window_def.Stage.TheVariants.{Live}
use Rattle.def_iface.specs.ControlMeaning.{is_fitting_control}
use Rattle.def_iface.proofs.taken_control.TakenControl.thumb_value.Goals as goal

pub thumb_value-requires : goal.thumb_value-requires
thumb_value-requires g c κs =
    let same = sym c.deref_box-1.ensures.1 in (
      refl,
      λ within. (
        tt,
        (
          λ a m. within a (mem-append_right κs.0 m),
          (
            subst (λ v. ((goal.ControlDef-dyn g v).control_meaning v.1).stage ≡ Live) same c.requires.live,
            subst (λ v. is_fitting_control ((goal.ControlDef-dyn g v).control_meaning v.1) ((goal.ControlDef-dyn g v).control_meaning v.1).size ≡ true) same c.requires.told,
          ),
        ),
      ),
    )
