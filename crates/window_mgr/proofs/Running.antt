-- Steps and runs keep a right state right.
use Rattle.std.proofs.Common.{◌≡◌, ℕ, ◌+◌, ◌^◌, nat_lt, Bool, true, false, ◌==◌, if◌then◌else◌, List, [], ◌∷◌, ◌++◌, map, Option, None, Some, Result, Ok, Err, refl, sym, ap, ◌∙◌, subst, arith}
use Rattle.std.proofs.lemmas.Bool.{and_parts}
use Rattle.std.proofs.lemmas.Bool.Decides.{nat_tests}
use Rattle.tb_geom.specs.declared.point.Point.{Point}
use Rattle.tb_geom.specs.declared.refusal.Refusal.{Refusal}
use Rattle.tb_geom.specs.Points.{PixelSet, plus}
use Rattle.def_iface.specs.WindowMeaning.{WindowDefinition}
use Rattle.desk_layers.specs.Desk as layers
use Rattle.desk_layers.specs.Owner.{Owner, owner, owner_among, is_content}
use Rattle.desk_layers.specs.Owner.Owner.{Bar}
use Rattle.desk_layers.specs.Scratch.{scratch}
use Rattle.desk_layers.specs.Change as plain
use Rattle.desk_layers.proofs.Owning.{is_other, owner_is_other, same_owner-true}
use Rattle.desk_layers.proofs.Changing.{stays_right}
use Rattle.desk_call.specs.declared.window.WindowCall.{WindowCall}
use Rattle.desk_call.specs.declared.window.Drawing.{Drawing}
use Rattle.desk_call.specs.declared.window.NewPicture.{NewPicture}
use Rattle.desk_call.specs.declared.window.NewWindow.{NewWindow}
use Rattle.desk_call.specs.declared.window.ScrollPicture.{ScrollPicture}
use Rattle.desk_call.specs.declared.window.WindowReply.{WindowReply}
use Rattle.vis_update.specs.Contents.{scroll_change}
use Rattle.vis_update.specs.Records.{WindowRecord, Look, layered_window}
use Rattle.window_mgr.specs.FullDesk.{FullDesk, FullState, IsRightState, IsGiven, HaveSerials, AreSerials, layered_desk, layered_state, look_of}
use Rattle.window_mgr.specs.Step.{IsWindowStep}
use Rattle.window_mgr.specs.Effects.{IsNewWindow, IsDrawn, IsPictureSet, IsScrolled, IsUnchanged, IsArrangement, Effect, IsEffect, effect_of, begins_active, new_record, desk_with_new, with_drawn, with_new_picture, with_scrolled, draw_change, picture_change}
use Rattle.window_mgr.specs.Effects.Effect.{Makes, Disposes, Draws, Pictures, Scrolls, Arranges, Places, Tells, Describes}
use Rattle.window_mgr.specs.Arrange.{with_highlighting, Arrangement, activation_of, desk_activated, placed}
use Rattle.window_mgr.specs.Finding.{front_of, record_with}
use Rattle.vis_update.specs.Touches.{moving}
use Rattle.window_mgr.proofs.EachChanged.{serials_map, map-map, numbered_map}
use Rattle.window_mgr.proofs.ClassPlaces.{new_windows, others_with, own_bit-put, place_on}
use Rattle.window_mgr.proofs.DimLemmas.{either}
use Rattle.window_mgr.proofs.PictureChanges.{draw_is_sound, picture_is_sound, scroll_is_sound}
use Rattle.window_mgr.proofs.Repictured.{repictured_serial}
use Rattle.window_mgr.proofs.Rearranged.{edited, edit_is_sound, numbered_now}
use Rattle.window_mgr.proofs.Arrangements.{IsSoundArrangement, IsSoundEffect, effect_is_sound, placed_sound}
use Rattle.window_mgr.proofs.Disposed.{disposed_stays_right}
use Rattle.window_mgr.proofs.PutIn.{put_in, map-put, distinct_put, serials_put, IsFree}

-- ---- a window among others

-- as layers, a desk with a new window has just one window more
pub layered_desk-with : (floating : Bool) (w : NewWindow) (serial slot : ℕ) (d : WindowDefinition) (desk : FullDesk) (stock : _) → layered_desk (record (desk_with_new floating w serial slot d desk) { stock = stock })
    ≡ record (layered_desk desk) { windows = map (layered_window (look_of desk)) (put_in (place_on floating desk) (new_record floating w serial slot d) desk.windows) }
layered_desk-with floating w serial slot d desk stock =
    ap (λ ws. record (layered_desk desk) { windows = ws })
    (ap (map (layered_window (look_of desk))) (new_windows floating w serial slot d desk)
    ∙ map-put (layered_window (look_of desk)) (place_on floating desk) (new_record floating w serial slot d) (others_with floating w desk)
    ∙ ap (put_in (place_on floating desk) (layered_window (look_of desk) (new_record floating w serial slot d))) (by_shown (begins_active floating w))
    ∙ sym (map-put (layered_window (look_of desk)) (place_on floating desk) (new_record floating w serial slot d) desk.windows))
  where
    by_shown : (b : Bool) → map (layered_window (look_of desk)) (if b then map (with_highlighting false desk.active) desk.windows else desk.windows) ≡ map (layered_window (look_of desk)) desk.windows
    by_shown true = map-map (layered_window (look_of desk)) (with_highlighting false desk.active) (layered_window (look_of desk)) (λ v. either false desk.active (λ u. layered_window (look_of desk) u ≡ layered_window (look_of desk) v) v refl refl) desk.windows
    by_shown false = refl

same_serial : (active : Option ℕ) (w : WindowRecord) → (with_highlighting false active w).serial ≡ w.serial
same_serial active w = either false active (λ v. v.serial ≡ w.serial) w refl refl

given-more : (next : ℕ) (ws : List WindowRecord) → HaveSerials (IsGiven (Some next)) ws → HaveSerials (IsGiven (Some (next + 1))) ws
given-more next [] h = tt
given-more next (w ∷ ws) h = let one = h.0.0 in let below = h.0.1 in ((one, omega arith), given-more next ws h.1)

-- so they were where no number is left
given-all : (next : ℕ) (ws : List WindowRecord) → HaveSerials (IsGiven (Some next)) ws → HaveSerials (IsGiven None) ws
given-all next [] h = tt
given-all next (w ∷ ws) h = (h.0.0, given-all next ws h.1)

-- the number of the next window is no window's
pub next_is_free : (look : Look) (next : ℕ) (ws : List WindowRecord) → HaveSerials (IsGiven (Some next)) ws → layers.window_of next (map (layered_window look) ws) ≡ None
next_is_free look next [] h = refl
next_is_free look next (w ∷ ws) h =
    let below = h.0.1 in
    let other : (w.serial == next) ≡ false = grind (arith, nat_tests) in
    rw other (next_is_free look next ws h.1)

-- ---- a new window is a sound change

not_the_bar : (s : ℕ) (b : Bool) (o : Owner) → is_other s o ≡ true → is_other s (if b then Bar else o) ≡ true
not_the_bar s true o e = refl
not_the_bar s false o e = e

new_is_sound : (desk : FullDesk) (stale image : PixelSet) (i : ℕ) (w : WindowRecord) → layers.IsDesk (layered_desk desk) → IsFree (look_of desk) w.serial desk.windows → layers.AreParts (layered_window (look_of desk) w).layers
    → plain.IsSound plain.no_change (record { desk = layered_desk desk; stale = stale; image = image }) (record (layered_desk desk) { windows = map (layered_window (look_of desk)) (put_in i w desk.windows) })
new_is_sound desk stale image i w distinct free parts = record {
  desk = distinct_put (look_of desk) i w desk.windows free parts distinct;
  kept = λ p on content afresh taken put drawn there.
      let after = record (layered_desk desk) { windows = map (layered_window (look_of desk)) (put_in i w desk.windows) } in
      let o = owner after p in
      let was : owner (layered_desk desk) p ≡ o = same_owner-true (owner (layered_desk desk) p) o (and_parts _ _ there).1 in
      let other : is_other w.serial (owner (layered_desk desk) p) ≡ true = not_the_bar w.serial (layers.in_bar (layered_desk desk) p) (owner_among (layered_desk desk).windows p) (owner_is_other (layered_desk desk).windows p w.serial free) in
      sym (own_bit-put (look_of desk) (layered_desk desk) i w desk.windows p o free (subst (λ (x : Owner). is_other w.serial x ≡ true) was other));
  right = λ p on taken. absurd (cc);
}

-- the windows of a desk with a new window are serials, it by the last number
pub numbered_with : (floating : Bool) (w : NewWindow) (serial slot : ℕ) (d : WindowDefinition) (desk : FullDesk) → AreSerials (Some serial) desk.windows → AreSerials (desk_with_new floating w serial slot d desk).next (desk_with_new floating w serial slot d desk).windows
numbered_with floating w serial slot d desk serials =
    let first = serials.0 in
    after_number (desk_with_new floating w serial slot d desk).windows (nat_lt (serial + 1) (2 ^ 64))
    (subst (HaveSerials (IsGiven (Some (serial + 1)))) (sym (new_windows floating w serial slot d desk))
    (serials_put (IsGiven (Some (serial + 1))) (place_on floating desk) (new_record floating w serial slot d) (others_with floating w desk) (first, omega arith) (by_shown (begins_active floating w))))
  where
    after_number : (ws : List WindowRecord) (b : Bool) → HaveSerials (IsGiven (Some (serial + 1))) ws → AreSerials (if b then Some (serial + 1) else None) ws
    after_number ws true h = (omega arith, h)
    after_number ws false h = (tt, given-all (serial + 1) ws h)

    by_shown : (b : Bool) → HaveSerials (IsGiven (Some (serial + 1))) (if b then map (with_highlighting false desk.active) desk.windows else desk.windows)
    by_shown true = serials_map (with_highlighting false desk.active) (same_serial desk.active) _ desk.windows (given-more serial desk.windows serials.1)
    by_shown false = given-more serial desk.windows serials.1

new_stays_right : (floating : Bool) (w : NewWindow) (serial : ℕ) (before after : FullState) → IsRightState before → IsNewWindow floating w serial before after → IsRightState after
new_stays_right floating w serial before after right new =
    let made = new_record floating w serial new.loan.slot new.begun in
    let below : AreSerials (Some serial) before.desk.windows = subst (λ (n : Option ℕ). AreSerials n before.desk.windows) new.serials right.serials in
    let desk : layered_desk after.desk ≡ record (layered_desk before.desk) { windows = map (layered_window (look_of before.desk)) (put_in (place_on floating before.desk) made before.desk.windows) } =
    ap layered_desk new.desk ∙ layered_desk-with floating w serial new.loan.slot new.begun before.desk after.desk.stock in
    let sound = new_is_sound before.desk before.stale before.image (place_on floating before.desk) made right.plain.desk (next_is_free (look_of before.desk) serial before.desk.windows below.1) (refl, tt) in
    record {
      plain = stays_right plain.no_change (layered_state before) (layered_state after) right.plain (subst (plain.IsSound plain.no_change (layered_state before)) (sym desk) sound) new.pixels;
      serials = subst (λ (d : FullDesk). AreSerials d.next d.windows) (sym new.desk) (numbered_with floating w serial new.loan.slot new.begun before.desk below);
    }

-- ---- a picture that changes is a sound change

draw_stays_right : (d : Drawing) (before after : FullState) → IsRightState before → IsDrawn d before after → IsRightState after
draw_stays_right d before after right drawn =
    let change = draw_change before.desk.font d.window drawn.window drawn.operation in
    let sound = draw_is_sound before.desk d.window drawn.window drawn.operation drawn.found before.stale before.image right.plain.desk in
    record {
      plain = stays_right change (layered_state before) (layered_state after) right.plain (subst (plain.IsSound change (layered_state before)) (sym (ap layered_desk drawn.desk)) sound) drawn.pixels;
      serials = subst (λ (x : FullDesk). AreSerials x.next x.windows) (sym drawn.desk) (numbered_map (with_drawn d.window drawn.operation) (repictured_serial d.window (λ w. w.picture ++ drawn.operation ∷ []) (λ w. w.origin)) before.desk.next before.desk.windows right.serials);
    }

picture_stays_right : (n : NewPicture) (before after : FullState) → IsRightState before → IsPictureSet n before after → IsRightState after
picture_stays_right n before after right done =
    let change = picture_change n.window in
    let sound = picture_is_sound before.desk n before.stale before.image right.plain.desk in
    record {
      plain = stays_right change (layered_state before) (layered_state after) right.plain (subst (plain.IsSound change (layered_state before)) (sym (ap layered_desk done.desk)) sound) done.pixels;
      serials = subst (λ (x : FullDesk). AreSerials x.next x.windows) (sym done.desk) (numbered_map (with_new_picture n) (repictured_serial n.window (λ w. n.picture) (λ w. n.origin)) before.desk.next before.desk.windows right.serials);
    }

scroll_stays_right : (m : ScrollPicture) (before after : FullState) (v : WindowRecord) → record_with m.window before.desk.windows ≡ Some v → IsRightState before → IsScrolled m before after → IsRightState after
scroll_stays_right m before after v found right done =
    let change = scroll_change m.window m.by in
    let sound = scroll_is_sound before.desk m v found before.stale before.image right.plain.desk in
    record {
      plain = stays_right change (layered_state before) (layered_state after) right.plain (subst (plain.IsSound change (layered_state before)) (sym (ap layered_desk done.desk)) sound) done.pixels;
      serials = subst (λ (x : FullDesk). AreSerials x.next x.windows) (sym done.desk) (numbered_map (with_scrolled m) (repictured_serial m.window (λ w. w.picture) (λ w. plus w.origin m.by)) before.desk.next before.desk.windows right.serials);
    }

-- ---- steps and runs

pub unchanged_stays_right : (before after : FullState) → IsRightState before → IsUnchanged before after → IsRightState after
unchanged_stays_right before after right same =
    let desk = ap layered_desk same.desk in
    let on_before = λ (p : Point) (on : layers.on_screen (layered_desk after.desk) p ≡ true). subst (λ (d : layers.LayeredDesk). layers.on_screen d p ≡ true) desk on in
    record {
      plain = record {
        desk = subst layers.IsDesk (sym desk) right.plain.desk;
        right = λ p on fresh.
            let there = on_before p on in
            same.image p there
            ∙ right.plain.right p there (sym (same.stale p there) ∙ fresh)
            ∙ ap (λ (d : layers.LayeredDesk). scratch d p) (sym desk);
        content = λ p on old.
            let there = on_before p on in
            subst (λ (d : layers.LayeredDesk). is_content (owner d p) ≡ true) (sym desk) (right.plain.content p there (sym (same.stale p there) ∙ old));
      };
      serials = subst (λ (d : FullDesk). AreSerials d.next d.windows) (sym same.desk) right.serials;
    }

arranged_stays_right : (a : Arrangement) (before after : FullState) → IsRightState before → IsSoundArrangement a before.desk → IsArrangement a before after → IsRightState after
arranged_stays_right a before after right E arranged =
    let activation = activation_of a.activates a.window before.desk.active (front_of a.windows) in
    let desk_is : after.desk ≡ edited before.desk a.window E.place E.to E.old E.new E.rest E.edit activation =
    arranged.desk ∙ ap (λ ws. desk_activated ws activation before.desk) E.windows in
    let change = moving a.window a.by in
    let sound = edit_is_sound before.desk a.window E.place E.to E.old E.new E.rest E.edit activation right.plain.desk before.stale before.image a.by E.moves in
    record {
      plain = stays_right change (layered_state before) (layered_state after) right.plain (subst (plain.IsSound change (layered_state before)) (sym (ap layered_desk desk_is)) sound) arranged.pixels;
      serials = subst (λ (x : FullDesk). AreSerials x.next x.windows) (sym desk_is) (numbered_now before.desk a.window E.place E.to E.old E.new E.rest E.edit activation right.serials);
    }

effect_stays_right : (effect : Effect) (answer : WindowReply) (before after : FullState) → IsRightState before → IsSoundEffect effect before.desk → IsEffect effect answer before after → IsRightState after
effect_stays_right (Makes floating w) answer before after right sound done = new_stays_right floating w done.0 before after right done.2
effect_stays_right (Draws d) answer before after right sound done = draw_stays_right d before after right done.1
effect_stays_right (Pictures n) answer before after right sound done = picture_stays_right n before after right done.1
effect_stays_right (Scrolls m) answer before after right sound done = scroll_stays_right m before after sound.0 sound.1 right done.1
effect_stays_right (Arranges a) answer before after right sound done = arranged_stays_right a before after right sound done.1
effect_stays_right (Disposes s) answer before after right sound done = disposed_stays_right s before after right done.1
effect_stays_right (Places p) answer before after right (w, found, way) done = let change = done.1 in arranged_stays_right (placed p change.definition before.desk.windows) before after right (placed_sound before.desk right.plain.desk p.window w found p change.definition refl way) change.arranged
effect_stays_right (Tells r) answer before after right sound done = unchanged_stays_right before after right done.1
effect_stays_right (Describes region) answer before after right sound done = unchanged_stays_right before after right done.1

pub step_stays_right : (call : WindowCall) (answer : Result WindowReply Refusal) (before after : FullState) → IsRightState before → IsWindowStep call answer before after → IsRightState after
step_stays_right call (Ok answer) before after right step = effect_stays_right (effect_of call before.desk) answer before after right (effect_is_sound call before right.plain.desk step.0) step.1
step_stays_right call (Err e) before after right step = unchanged_stays_right before after right step.1
