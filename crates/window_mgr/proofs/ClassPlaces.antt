-- Where a new window is put in among others, by its class.
use Rattle.std.proofs.Common.{◌≡◌, ℕ, ◌==◌, Bool, true, false, if◌then◌else◌, List, map, Option, Some, refl, sym, ap, ◌∙◌}
use Rattle.std.specs.List.{insert}
use Rattle.std.proofs.lemmas.Bool.{not-true}
use Rattle.std.proofs.lemmas.List.{length-map}
use Rattle.tb_geom.specs.declared.point.Point.{Point}
use Rattle.def_iface.specs.Slots.{TakenBox}
use Rattle.def_iface.specs.WindowMeaning.{WindowDefinition, WindowLoan}
use Rattle.desk_layers.specs.Desk as layers
use Rattle.desk_layers.specs.Owner.{Owner, own_bit, frame_bit, content_bit}
use Rattle.desk_layers.specs.Owner.Owner.{Desktop, Bar, Frame, Content}
use Rattle.desk_layers.proofs.Owning.{is_other}
use Rattle.desk_call.specs.declared.window.NewWindow.{NewWindow}
use Rattle.window_list.specs.Classes.{front_place, back_place}
use Rattle.window_list.specs.Lists.{floats}
use Rattle.window_list.specs.declared.window.Window.{Window}
use Rattle.window_list.proofs.ClassLemmas.{front_map, prefix_map}
use Rattle.vis_update.specs.Records.{WindowRecord, Look, layered_window, record_of, is_floating}
use Rattle.window_mgr.specs.Arrange.{with_highlighting}
use Rattle.window_mgr.specs.Effects.{begins_active, new_record, desk_with_new}
use Rattle.window_mgr.specs.FullDesk.{FullDesk}
use Rattle.window_mgr.proofs.DimLemmas.{either, windows_behind}
use Rattle.window_mgr.proofs.PutIn.{put_in, put_is_insert, found_put, IsFree}

module _ (floating : Bool) where
  -- a window that loses its highlighting stays of its class
  pub place_behind : (active : Option ℕ) (b : Bool) (ws : List WindowRecord) → front_place is_floating floating (windows_behind active b ws) ≡ front_place is_floating floating ws
  place_behind active true ws = front_map (with_highlighting false active) is_floating is_floating (λ w. either false active (λ v. is_floating v ≡ is_floating w) w refl refl) floating ws
  place_behind active false ws = refl

  -- the records are of the classes of their windows
  pub place_records : {V : Type 0} {H : V → Type 0} (loan : TakenBox V H → WindowLoan) (ws : List (Window V H)) → front_place is_floating floating (map (record_of loan) ws) ≡ front_place floats floating ws
  place_records loan ws = front_map (record_of loan) floats is_floating (λ w. refl) floating ws

  -- nor is its back another place for them
  pub back_records : {V : Type 0} {H : V → Type 0} (loan : TakenBox V H → WindowLoan) (ws : List (Window V H)) → back_place is_floating floating (map (record_of loan) ws) ≡ back_place floats floating ws
  back_records loan ws = by_class floating
    where
      by_class : (b : Bool) → back_place is_floating b (map (record_of loan) ws) ≡ back_place floats b ws
      by_class true = prefix_map (record_of loan) floats is_floating (λ w. refl) ws
      by_class false = length-map ws (record_of loan)

  -- where a new window of the class is put in
  abbrev pub place_on : FullDesk → ℕ
  place_on desk = front_place is_floating floating desk.windows

  -- the others then
  abbrev pub others_with : NewWindow → FullDesk → List WindowRecord
  others_with w desk = windows_behind desk.active (begins_active floating w) desk.windows

  -- a new window stands among the others at its place
  pub new_windows : (w : NewWindow) (n slot : ℕ) (d : WindowDefinition) (desk : FullDesk) → (desk_with_new floating w n slot d desk).windows ≡ put_in (place_on desk) (new_record floating w n slot d) (others_with w desk)
  new_windows w n slot d desk =
      (λ i. insert (others_with w desk) (place_behind desk.active (begins_active floating w) desk.windows i) (new_record floating w n slot d))
      ∙ sym (put_is_insert (place_on desk) (new_record floating w n slot d) (others_with w desk))

-- a window put in among others changes no value of the owners that are none of its layers
pub own_bit-put : (look : Look) (desk : layers.LayeredDesk) (i : ℕ) (w : WindowRecord) (rest : List WindowRecord) (p : Point) (o : Owner) → IsFree look w.serial rest → is_other w.serial o ≡ true
    → own_bit (record desk { windows = map (layered_window look) (put_in i w rest) }) o p ≡ own_bit (record desk { windows = map (layered_window look) rest }) o p
own_bit-put look desk i w rest p Desktop free e = refl
own_bit-put look desk i w rest p Bar free e = refl
own_bit-put look desk i w rest p (Frame s) free e =
    ap (λ v. frame_bit v p) (found_put look s i w rest free ∙ (λ k. if not-true (w.serial == s) e k then Some (layered_window look w) else layers.window_of s (map (layered_window look) rest)))
own_bit-put look desk i w rest p (Content s part) free e =
    ap (λ v. content_bit v part p) (found_put look s i w rest free ∙ (λ k. if not-true (w.serial == s) e k then Some (layered_window look w) else layers.window_of s (map (layered_window look) rest)))
