-- Where pixels get another owner, where a call puts one window anew, takes it out or makes it.
use Rattle.std.proofs.Common.{◌≡◌, ℕ, zero, suc, ◌<◌, ◌==◌, Bool, true, false, not, ◌&&◌, ◌||◌, if◌then◌else◌, List, [], ◌∷◌, length, get_or, map, Some, refl, sym, ap, ◌∙◌, subst}
use Rattle.std.specs.Prelude.{All}
use Rattle.std.specs.List.{remove}
use Rattle.std.proofs.lemmas.Bool.{and_parts}
use Rattle.std.proofs.lemmas.List.Elements.{All-nil, All-cons}
use Rattle.tb_geom.specs.declared.point.Point.{Point}
use Rattle.tb_geom.specs.Points.{PixelSet, minus}
use Rattle.tb_geom.specs.Pixels.{Pixels, holds}
use Rattle.def_iface.specs.Slots.{TakenBox}
use Rattle.def_iface.specs.WindowMeaning.{WindowDefinition, WindowLoan, SameRegions}
use Rattle.desk_layers.specs.Desk as layers
use Rattle.desk_layers.specs.Desk.{LayeredDesk}
use Rattle.desk_layers.specs.Change.{State}
use Rattle.desk_layers.proofs.Owning.{same_number}
use Rattle.desk_call.specs.declared.window.NewWindow.{NewWindow}
use Rattle.window_list.specs.declared.window.Window.{Window}
use Rattle.vis_update.specs.declared.area.Area.{Area}
use Rattle.vis_update.specs.declared.plan.Seat.{Seat}
use Rattle.vis_update.specs.declared.plan.Touch.{Touch}
use Rattle.vis_update.specs.Plans.{IsLosing}
use Rattle.vis_update.specs.Records.{WindowRecord, layered_window, record_of}
use Rattle.vis_update.specs.Areas.{IsArea, IsGray, IsNear, IsNowhere}
use Rattle.vis_update.specs.Seats.{stand_of, IsChangedArea}
use Rattle.vis_update.specs.Hands.{except, SameOthers, IsChangedWith, IsLostOf, covers}
use Rattle.vis_update.proofs.Hands.{IsClear, none_of_serial, others_alike, others_then, changed_area}
use Rattle.vis_update.proofs.SeatLemmas.{absent_area}
use Rattle.window_mgr.specs.declared.arrange.Edit.{Edit}
use Rattle.window_mgr.specs.declared.manager.WindowManager.{WindowManager}
use Rattle.window_mgr.specs.Edits.{put_record, AreSeatsAfter, IsWindowAt, IsDeskOfEdit}
use Rattle.window_mgr.specs.Effects.{begins_active, new_record, desk_with_new}
use Rattle.window_mgr.specs.FullDesk.{FullDesk, layered_desk, layered_state, look_of}
use Rattle.window_mgr.specs.Kept.{IsKept}
use Rattle.window_mgr.specs.Records.{desk_of, state_of, look_on}
use Rattle.window_mgr.specs.Without.{records_without, IsDeskWithout}
use Rattle.window_mgr.proofs.ClassPlaces.{new_windows, others_with, place_on}
use Rattle.window_mgr.proofs.KeptWindows.{same_behind}
use Rattle.window_mgr.proofs.PutIn.{put_in, put_is_insert, taken_out, map-put, All-put, IsFree, distinct_out}
use Rattle.window_mgr.proofs.EditSeats.{anew_read, area_read}
use Rattle.window_mgr.proofs.Remarked as remarked
use Rattle.window_mgr.proofs.Seating as seating
use Rattle.window_mgr.proofs.Seating.{seat_at}

-- without the windows of a serial it is the same whether one of that serial was put in
except_put : (n : ℕ) (x : WindowRecord) → (n == x.serial) ≡ true → (j : ℕ) (ws : List WindowRecord) → except n (put_in j x ws) ≡ except n ws
except_put n x e zero ws = λ i. if e i then except n ws else x ∷ except n ws
except_put n x e (suc j) [] = λ i. if e i then [] else x ∷ []
except_put n x e (suc j) (y ∷ ys) = λ i. if n == y.serial then except_put n x e j ys i else y ∷ except_put n x e j ys i

-- nothing that windows had is another's where that one had nothing
pub losing_nothing : {V : Type 0} {H : V → Type 0} (touch : Touch) (old : Area) → IsNowhere old → (changed lost : Pixels) → IsLostOf old changed lost → (seats : List (Seat V H)) → All (IsLosing touch (holds changed) (holds lost)) seats
losing_nothing touch old nowhere changed lost its [] = All-nil (IsLosing touch (holds changed) (holds lost))
losing_nothing touch old nowhere changed lost its (s ∷ seats) =
    All-cons (IsLosing touch (holds changed) (holds lost)) s seats
    (λ whole p has here. its p ∙ (λ i. (here i && not (nowhere.visible p i)) && not (nowhere.frame p i)))
    (losing_nothing touch old nowhere changed lost its seats)

-- of what a window had nothing is lost to others
pub lost_none : (old : Area) (gray : Point → Bool) (changed none : Pixels) → ((p : Point) → holds changed p ≡ (((holds old.visible p || holds old.frame p) || false) && gray p)) → ((p : Point) → holds none p ≡ false) → IsLostOf old changed none
lost_none old gray changed none its empty p = empty p ∙ out (holds old.visible p) (holds old.frame p) (gray p) ∙ ap (λ b. (b && not (holds old.visible p)) && not (holds old.frame p)) (sym (its p))
  where
    out : (v f g : Bool) → false ≡ (((((v || f) || false) && g) && not v) && not f)
    out true true true = refl
    out true true false = refl
    out true false true = refl
    out true false false = refl
    out false true true = refl
    out false true false = refl
    out false false g = refl

-- the region has what of the gray region the window at the place of an edit had, and what it covers where it is to be
pub record IsChangedBy {V : Type 0} {H : V → Type 0} (loan : TakenBox V H → WindowLoan) (e : Edit) (t : WindowManager V H) (changed : Pixels) : Type 0 where
  pub area : Area
  pub at : area ≡ get_or t.areas.items e.at area
  pub is : (w : Window V H) → IsWindowAt t.windows.records.items e.at w
      → IsChangedWith area (λ p. e.shown && (loan w.taken).definition.structure e.size (minus p e.place)) t.gray changed

module _ {V : Type 0} {H : V → Type 0} (loan : TakenBox V H → WindowLoan) (t : WindowManager V H) (kept : IsKept loan t) where
  abbrev before : State
  before = layered_state (state_of loan t [])

  abbrev were : List WindowRecord
  were = (desk_of loan t []).windows

  -- what lies in the gray region is near
  pub changed_near : (both : Point → Bool) (changed : Pixels) → ((p : Point) → holds changed p ≡ (both p && holds t.gray p)) → IsNear changed
  changed_near both changed its p e = seating.gray_near loan t kept p (and_parts (both p) (holds t.gray p) (sym (its p) ∙ e)).1

  changed_on : (n : ℕ) (after : FullDesk) (old : Area) (cover : PixelSet) (changed : Pixels) → layered_desk after ≡ record (layered_desk (desk_of loan t [])) { windows = (layered_desk after).windows }
      → SameOthers n were after.windows → IsArea before.desk before.stale n old → ((p : Point) → cover p ≡ false → All (IsClear n p) (map stand_of after.windows)) → IsChangedWith old cover t.gray changed → IsChangedArea before.desk (layered_desk after) changed
  changed_on n after old cover changed screen others had clear its =
      changed_area (look_of after) (look_on t) before (layered_desk after) were after.windows n old t.gray changed cover refl refl
      (sym (ap (λ (d : LayeredDesk). d.width) screen)) (sym (ap (λ (d : LayeredDesk). d.height) screen)) (sym (ap (λ (d : LayeredDesk). d.bar) screen))
      others had (subst (λ (d : LayeredDesk). IsGray d t.gray) (sym screen) kept.whole.gray) clear its

  module _ (at : ℕ) (w : Window V H) (w_is : IsWindowAt t.windows.records.items at w) (low : at < length t.windows.records.items) where
    abbrev rest : List WindowRecord
    rest = records_without loan at t

    windows_were : were ≡ put_in at (record_of loan w) rest
    windows_were = ap (map (record_of loan)) (taken_out t.windows.records.items at w low w_is) ∙ map-put (record_of loan) at w (remove t.windows.records.items at)

    free_rest : IsFree (look_on t) w.serial rest
    free_rest = (distinct_out (look_on t) at (record_of loan w) rest (subst (λ (ws : List WindowRecord). layers.AreWindows (map (layered_window (look_on t)) ws)) windows_were kept.whole.sound.distinct)).0

    -- the others are those that were there without it
    others_rest : SameOthers w.serial were rest
    others_rest = record {
      stands = ap (map stand_of) (ap (except w.serial) windows_were ∙ except_put w.serial (record_of loan w) (same_number w.serial) at rest);
      layers = ap (map (λ (v : WindowRecord). v.layers)) (ap (except w.serial) windows_were ∙ except_put w.serial (record_of loan w) (same_number w.serial) at rest);
    }

    -- where the window is taken out
    pub changes_rest : (after : FullDesk) → IsDeskWithout loan at t after → (old : Area) → old ≡ get_or t.areas.items at old → (changed : Pixels) → IsChangedWith old (λ p. false) t.gray changed → IsChangedArea before.desk (layered_desk after) changed
    changes_rest after D old old_is changed its =
        changed_on w.serial after old (λ p. false) changed D.screen
        (others_then w.serial were rest after.windows others_rest (others_alike w.serial rest after.windows (sym D.stands) (sym D.layers)))
        (remarked.area_is loan t kept.slots kept.whole at low w w_is old old_is)
        (λ p none. subst (All (IsClear w.serial p)) (sym D.stands) (none_of_serial (look_on t) w.serial p rest free_rest))
        its

  -- what its seat had and covers where it is to be, the window does
  pub changed_is : (e : Edit) (seats : List (Seat V H)) (S : AreSeatsAfter e t.windows.records.items t.areas.items seats) → e.at < length t.windows.records.items → e.to < length t.windows.records.items
      → (s : Seat V H) → s ≡ get_or seats e.to s → (changed : Pixels) → IsChangedWith s.area.now (covers loan s) t.gray changed → IsChangedBy loan e t changed
  changed_is e seats S low to s read changed its =
      let same = anew_read loan t kept e seats S low s to read in
      record {
        area = S.seat.area.now;
        at = area_read loan t kept e seats S low;
        is = λ w w_is p.
            let seat = seat_at t.windows.records.items t.areas.items S.all e.at w S.seat S.are low w_is S.at in
            its p
            ∙ (λ i. ((holds (same i).area.now.visible p || holds (same i).area.now.frame p) || covers loan (same i) p) && holds t.gray p)
            ∙ (λ i. ((holds S.seat.area.now.visible p || holds S.seat.area.now.frame p) || (e.shown && (loan (seat.1.taken i)).definition.structure e.size (minus p e.place))) && holds t.gray p);
      }

  -- where it is put anew
  pub changes_edit : (e : Edit) (w : Window V H) → IsWindowAt t.windows.records.items e.at w → e.at < length t.windows.records.items → (after : FullDesk) → IsDeskOfEdit loan e t w after → (changed : Pixels) → IsChangedBy loan e t changed → IsChangedArea before.desk (layered_desk after) changed
  changes_edit e w w_is low after D changed its =
      changed_on w.serial after its.area (λ p. e.shown && (loan w.taken).definition.structure e.size (minus p e.place)) changed D.screen
      (others_then w.serial were others after.windows
      (others_then w.serial were (rest e.at w w_is low) others (others_rest e.at w w_is low) (record {
        stands = ap (map stand_of) (sym (except_put w.serial anew (same_number w.serial) e.to (rest e.at w w_is low)));
        layers = ap (map (λ (v : WindowRecord). v.layers)) (sym (except_put w.serial anew (same_number w.serial) e.to (rest e.at w w_is low)));
      }))
      (others_alike w.serial others after.windows (sym stands_are) (sym (D.layers ∙ ap (map (λ (v : WindowRecord). v.layers)) (sym (put_is_insert e.to anew (rest e.at w w_is low)))))))
      (remarked.area_is loan t kept.slots kept.whole e.at low w w_is its.area its.at)
      (λ p none. subst (All (IsClear w.serial p)) (sym (stands_are ∙ map-put stand_of e.to anew (rest e.at w w_is low)))
      (All-put (IsClear w.serial p) e.to (stand_of anew) (map stand_of (rest e.at w w_is low)) (λ same. none) (none_of_serial (look_on t) w.serial p (rest e.at w w_is low) (free_rest e.at w w_is low))))
      (its.is w w_is)
    where
      anew : WindowRecord
      anew = put_record e (record_of loan w)

      others : List WindowRecord
      others = put_in e.to anew (rest e.at w w_is low)

      stands_are : map stand_of after.windows ≡ map stand_of others
      stands_are = D.stands ∙ ap (map stand_of) (sym (put_is_insert e.to anew (rest e.at w w_is low)))

  -- where a new one is put in
  pub changes_new : (floating : Bool) (w : NewWindow) (n slot : ℕ) (d begun : WindowDefinition) → t.windows.next ≡ Some n → SameRegions d begun → (old : Area) → IsNowhere old → (changed : Pixels) → IsChangedWith old (λ p. w.shown && d.structure w.size (minus p w.place)) t.gray changed → IsChangedArea before.desk (layered_desk (desk_with_new floating w n slot begun (desk_of loan t []))) changed
  changes_new floating w n slot d begun next regions old nowhere changed its =
      changed_on n after old (λ p. w.shown && d.structure w.size (minus p w.place)) changed refl
      (others_then n were behind after.windows (others_alike n were behind (sym stands) (sym its_layers)) (record {
        stands = ap (map stand_of) (sym put_out);
        layers = ap (map (λ (v : WindowRecord). v.layers)) (sym put_out);
      }))
      (absent_area before.desk before.stale n old free nowhere)
      (λ p none. subst (All (IsClear n p)) (sym (ap (map stand_of) put ∙ map-put stand_of k made behind))
      (All-put (IsClear n p) k (stand_of made) (map stand_of behind)
      (λ same. (λ i. w.shown && regions.structure i w.size (minus p w.place)) ∙ none)
      (subst (All (IsClear n p)) (sym stands) (none_of_serial (look_on t) n p were free))))
      its
    where
      after : FullDesk
      after = desk_with_new floating w n slot begun (desk_of loan t [])

      made : WindowRecord
      made = new_record floating w n slot begun

      behind : List WindowRecord
      behind = others_with floating w (desk_of loan t [])

      k : ℕ
      k = place_on floating (desk_of loan t [])

      put : after.windows ≡ put_in k made behind
      put = new_windows floating w n slot begun (desk_of loan t [])

      put_out : except n after.windows ≡ except n behind
      put_out = ap (except n) put ∙ except_put n made (same_number n) k behind

      free : IsFree (look_on t) n were
      free = seating.number_is_free loan t kept n next

      stands : map stand_of behind ≡ map stand_of were
      stands = same_behind stand_of (λ v. refl) t.windows.active (begins_active floating w) were

      its_layers : map (λ (v : WindowRecord). v.layers) behind ≡ map (λ (v : WindowRecord). v.layers) were
      its_layers = same_behind (λ (v : WindowRecord). v.layers) (λ v. refl) t.windows.active (begins_active floating w) were
