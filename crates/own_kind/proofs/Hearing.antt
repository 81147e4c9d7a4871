-- What a hollow window and a ring show once they were told of a change.
use Rattle.std.proofs.Common.{true, refl}
use Rattle.def_iface.specs.declared.control_def.ControlChange.{ControlChange}
use Rattle.def_iface.specs.declared.window_def.WindowChange.{WindowChange}
use Rattle.def_iface.specs.ControlMeaning.{ControlHears}
use Rattle.def_iface.specs.ControlNews.{told_control}
use Rattle.def_iface.specs.WindowNews.{told_change}
use Rattle.def_iface.specs.WindowMeaning.{WindowHears}
use Rattle.def_iface.proofs.KeptControlLemmas.{kept_control_hears}
use Rattle.def_iface.proofs.KeptLemmas.{kept_hears}
use Rattle.looks.specs.Letters.{lettering}
use Rattle.looks.specs.Marks.{look_bit}
use Rattle.own_kind.specs.declared.hollow_window.HollowWindow.{HollowWindow}
use Rattle.own_kind.specs.declared.ring_control.RingControl.{RingControl}
use Rattle.own_kind.specs.HollowWindows.{hollow_look, hollow_hit, window_meaning, told_window}
use Rattle.own_kind.specs.Rings.{ring_seen, ring_part, ring_value, ring_meaning, told_ring}

pub hollow_hears : (change : WindowChange) (w : HollowWindow) → WindowHears (told_change change) (window_meaning w) (window_meaning (told_window change w))
hollow_hears change w = kept_hears
    (λ f title size font. look_bit (lettering font title) (hollow_look f size)) hollow_hit
    w.flags w.title w.size change (window_meaning w) (window_meaning (told_window change w)) refl refl refl refl

pub ring_hears : (change : ControlChange) (r : RingControl) → ControlHears (told_control change) (ring_meaning r) (ring_meaning (told_ring change r))
ring_hears change r = kept_control_hears ring_seen ring_part ring_value (λ old new p. true)
    r.kept change (ring_meaning r) (ring_meaning (told_ring change r)) refl refl refl refl refl refl refl refl
