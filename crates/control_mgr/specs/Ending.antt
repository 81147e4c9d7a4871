-- Controls that are ended, as the code does it.
use Rattle.std.specs.Prelude.{◌≡◌, ℕ, List, MatchOption, Option, None, Some}
use Rattle.std.specs.List.{remove}
use Rattle.tb_geom.specs.Pixels.{Pixels}
use Rattle.window_items.specs.Items.{place_among}
use Rattle.desk_layers.specs.declared.part.Part.TheVariants as part
use Rattle.def_iface.specs.Slots.{TakenBox}
use Rattle.def_iface.specs.ControlMeaning.{ControlLoan}
use Rattle.def_iface.specs.WindowMeaning.{WindowLoan}
use Rattle.window_list.specs.Holders.{ArePartsApart, PlacedLayers, layer_index}
use Rattle.desk_call.specs.declared.control.ControlOf.{ControlOf}
use Rattle.window_list.specs.declared.window.Window.{Window}
use Rattle.window_mgr.specs.declared.manager.WindowManager.{WindowManager}
use Rattle.window_mgr.specs.Edits.{IsWindowAt, StandsAt}
use Rattle.window_mgr.specs.Relayered.{AreLayersPut, IsPlanOfLayers, MayHaveLayers}
use Rattle.control_mgr.specs.declared.controls.Controls.{Controls}
use Rattle.control_mgr.specs.declared.ending.Ending.{Ending}
use Rattle.control_mgr.specs.ControlDesks.{index_of}
use Rattle.control_mgr.specs.Planned.{IsLaidSo}
use Rattle.control_mgr.specs.Spots.{IsSpotOf}
use Rattle.control_mgr.specs.WholeControls.{AreBeside, records_of}

-- the layers of the window at this place without that of the control of this serial, and they are apart
pub record IsTakenOut (at serial : ℕ) (ls : PlacedLayers) (e : Ending) : Type 0 where
  pub window : e.window ≡ at
  pub index : ℕ
  pub found : layer_index (part.Control serial) ls.layers ≡ Some index
  pub layers : e.layers ≡ record ls { layers = remove ls.layers index }
  pub apart : ArePartsApart e.layers.layers

-- the layers that a window has, and what is to be redrawn of it, once a control that is to end, if one is, was ended
abbrev pub layers_left : Option Ending → PlacedLayers → PlacedLayers
layers_left None ls = ls
layers_left (Some e) ls = e.layers

abbrev pub update_left : Option Ending → Pixels → Pixels
update_left None update = update
update_left (Some e) update = e.relaying.update

module _ {V : Type 0} {H : V → Type 0} (loan : TakenBox V H → WindowLoan) {W : Type 0} {K : W → Type 0} (control_loan : TakenBox W K → ControlLoan) where
  -- windows and controls of which this one can be ended as it was planned beside the windows `t`, if it is there: its window stands
  -- at this place and has these layers, and of it this is to be redrawn
  pub record IsReadyToEnd (c : ControlOf) (at : ℕ) (ls : PlacedLayers) (update : Pixels) (t u : WindowManager V H) (m : Controls (TakenBox W K)) : Type 0 where
    pub laid : IsLaidSo loan at ls update t u
    pub beside : AreBeside control_loan loan u m
    pub stands : StandsAt u.windows.records.items c.window at

  -- the layers of its window without that of the control, which is there, and what changes by that on the screen
  pub record IsEnding (c : ControlOf) (t : WindowManager V H) (m : Controls (TakenBox W K)) (e : Ending) : Type 0 where
    pub at : ℕ
    pub spot : IsSpotOf loan control_loan c t m (record { window = e.window; control = at })
    pub layers : (w : Window V H) → IsWindowAt t.windows.records.items e.window w
        → e.layers ≡ record w.layers { layers = remove w.layers.layers (place_among at m.list.items.items) }
    pub may : MayHaveLayers e.window t e.layers
    pub planned : IsPlanOfLayers loan e.window e.layers.layers None t e.relaying

  -- so it is of a control that is there, and nothing is planned of another
  abbrev pub IsPlannedEnd : ControlOf → WindowManager V H → Controls (TakenBox W K) → Option Ending → Type 0
  IsPlannedEnd c t m planned = MatchOption planned (index_of c (records_of control_loan m) ≡ None) (IsEnding c t m)

-- the window has the layers that were planned, where some were
abbrev pub IsPutIfPlanned : {V : Type 0} {H : V → Type 0} → Option Ending → WindowManager V H → WindowManager V H → Type 0
IsPutIfPlanned None t u = u ≡ t
IsPutIfPlanned (Some e) t u = AreLayersPut e.window e.layers e.relaying.update t u
