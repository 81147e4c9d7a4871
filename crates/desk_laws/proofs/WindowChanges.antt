-- What a call on windows changes of pixels is its change, also once definitions were told how their windows stand.
use Rattle.std.proofs.Common.{◌≡◌, ℕ, ◌==◌, ◌&&◌, Bool, true, false, if◌then◌else◌, List, [], ◌∷◌, Option, None, Some, Ok, Err, refl, sym, ap, ◌∙◌, subst}
use Rattle.std.specs.List.{AllZip}
use Rattle.std.specs.Option.{option_and_then, option_map_or}
use Rattle.tb_geom.specs.declared.point.Point.{Point}
use Rattle.tb_geom.specs.declared.refusal.Refusal.{Refusal}
use Rattle.tb_geom.specs.Points.{PixelSet, minus}
use Rattle.def_iface.specs.WindowNews.{WindowNews}
use Rattle.desk_layers.specs.Desk.{on_screen}
use Rattle.desk_layers.specs.Owner.{owner}
use Rattle.desk_layers.specs.Owner.Owner.{Content}
use Rattle.desk_layers.specs.Change.{Change, IsChanged, State, no_change}
use Rattle.desk_call.specs.declared.activity.Standing.{Standing}
use Rattle.desk_call.specs.declared.window.WindowCall.{WindowCall}
use Rattle.desk_call.specs.declared.window.WindowCall.TheVariants as calls
use Rattle.desk_call.specs.declared.window.WindowReply.{WindowReply}
use Rattle.desk_call.specs.declared.window.Zoom.{Zoom}
use Rattle.desk_call.specs.Gates.{window_standing}
use Rattle.desk_call.specs.Parts.{zoom_of}
use Rattle.window_list.specs.declared.window.Placement.{Placement}
use Rattle.window_list.specs.Holders.{part_at}
use Rattle.vis_update.specs.Records.{Look, WindowRecord}
use Rattle.vis_update.specs.Touches.{moving}
use Rattle.window_mgr.specs.Arrange.{changed}
use Rattle.window_mgr.specs.DeskStates.{DeskState, narrowed}
use Rattle.window_mgr.specs.Effects.{IsEffect, IsUnchanged, draw_change, effect_of, places}
use Rattle.window_mgr.specs.Finding.{record_with}
use Rattle.window_mgr.specs.FrameNotices.{IsFrameNotified}
use Rattle.window_mgr.specs.FullDesk.{FullDesk, FullState, IsRightState, layered_desk, layered_state, look_of}
use Rattle.window_mgr.specs.Placings.{Placing, gone, sized, zoom_target, zoomed_by}
use Rattle.window_mgr.proofs.FrameRight.{KeepsLayers, frame_told_stays_right}
use Rattle.window_mgr.proofs.Running as windowing
use Rattle.window_mgr.proofs.Running.{unchanged_stays_right}
use Rattle.window_mgr.proofs.Showing.{owner_showing}
use Rattle.window_frame.specs.Followers.{Flag, IsCaughtUpBy, told_flag, with_heard}
use Rattle.window_frame.specs.Followers.Flag.{Highlighting, Zooming}
use Rattle.window_frame.proofs.ToldSteps.{HoldsOfFollowing, of_caught_up}
use Rattle.desk_toolbox.specs.Run.{IsWindowAnswer, IsWindowDone, IsWindowMade}
use Rattle.desk_toolbox.specs.ToolboxStates.{ToolboxState}
use Rattle.desk_laws.specs.Changes.{change_of_window}
use Rattle.desk_laws.specs.Meant.{operation_of}
use Rattle.desk_laws.proofs.KeptValues.{HaveSameOwners, nothing_changed, then_nothing}
use Rattle.desk_laws.proofs.MeantPixels.{operation_is}
use Rattle.desk_laws.proofs.PartsThere.{IsAlike, related_owners}

-- ---- states of a desk

-- where nothing changed of a right state
pub unchanged_changes : (before after : FullState) → IsRightState before → IsUnchanged before after → IsChanged no_change (layered_state before) (layered_state after)
unchanged_changes before after right same =
    nothing_changed (layered_state before) (layered_state after) (record {
      screen = λ p i. on_screen (layered_desk (sym same.desk i)) p;
      owners = λ p i. owner (layered_desk (sym same.desk i)) p;
    }) right.plain (unchanged_stays_right before after right same).plain same.stale same.image

-- the desk is the same but for what its layers show
pub same_but_shows : (d e : FullDesk) → e ≡ record d { shows = e.shows } → HaveSameOwners (layered_desk d) (layered_desk e)
same_but_shows d e same = record {
  screen = λ p. sym (ap (λ (x : FullDesk). on_screen (layered_desk x) p) same);
  owners = λ p. sym (ap (λ (x : FullDesk). owner (layered_desk x) p) same ∙ owner_showing (λ font. e.shows) d p);
}

-- ---- what a call on windows does that nothing refuses

window_found : {X : Type 0} (f : WindowRecord → X) (o : Option WindowRecord) (w : WindowRecord) (otherwise : X) → o ≡ Some w → option_map_or f o otherwise ≡ f w
window_found f o w otherwise found = ap (λ x. option_map_or f x otherwise) found

sized_changes : (z : _) (o : Option WindowRecord) (answer : WindowReply) (before after : FullState) → IsRightState before → IsEffect (places (sized z o)) answer before after → IsChanged no_change (layered_state before) (layered_state after)
sized_changes z None answer before after right (is, same) = unchanged_changes before after right same
sized_changes z (Some w) answer before after right (is, placed) = placed.arranged.pixels

gone_changes : (s : ℕ) (w : WindowRecord) (to : Option Placement) (answer : WindowReply) (before after : FullState) → IsRightState before → IsEffect (places (gone s w to)) answer before after
    → IsChanged (moving s (option_and_then (λ (p : Placing). p.by) (gone s w to))) (layered_state before) (layered_state after)
gone_changes s w None answer before after right (is, same) = unchanged_changes before after right same
gone_changes s w (Some to) answer before after right (is, placed) = placed.arranged.pixels

zoomed_changes : (zoom : Option Zoom) (s : ℕ) (o : Option WindowRecord) (answer : WindowReply) (before after : FullState) → IsRightState before → IsEffect (places (zoomed_by zoom s o before.desk)) answer before after
    → IsChanged (moving s (option_and_then (λ (p : Placing). p.by) (zoomed_by zoom s o before.desk))) (layered_state before) (layered_state after)
zoomed_changes (Some zoom) s (Some w) answer before after right done = gone_changes s w (zoom_target zoom w.user_state before.desk w) answer before after right done
zoomed_changes (Some zoom) s None answer before after right (is, same) = unchanged_changes before after right same
zoomed_changes None s o answer before after right (is, same) = unchanged_changes before after right same

effect_changes : (call : WindowCall) (answer : WindowReply) (before after : FullState) → IsRightState before → IsEffect (effect_of call before.desk) answer before after
    → IsChanged (change_of_window call before.desk) (layered_state before) (layered_state after)
effect_changes (calls.New w) answer before after right (serial, is, new) = new.pixels
effect_changes (calls.NewFloating w) answer before after right (serial, is, new) = new.pixels
effect_changes (calls.Dispose s) answer before after right (is, disposed) = disposed.pixels
effect_changes (calls.Draw d) answer before after right (is, drawn) =
    subst (λ c. IsChanged c (layered_state before) (layered_state after))
    (ap (draw_change before.desk.font d.window drawn.window) (operation_is d.operation drawn.operation drawn.meant)
    ∙ sym (window_found (λ w. draw_change before.desk.font d.window w (operation_of d.operation)) (record_with d.window before.desk.windows) drawn.window no_change drawn.found))
    drawn.pixels
effect_changes (calls.SetPicture n) answer before after right (is, placed) = placed.pixels
effect_changes (calls.Scroll m) answer before after right (is, scrolled) = scrolled.pixels
effect_changes (calls.Select s) answer before after right (is, arranged) = arranged.pixels
effect_changes (calls.BringToFront s) answer before after right (is, arranged) = arranged.pixels
effect_changes (calls.SendBehind b) answer before after right (is, arranged) = arranged.pixels
effect_changes (calls.Move m) answer before after right (is, arranged) = arranged.pixels
effect_changes (calls.Show s) answer before after right (is, arranged) = arranged.pixels
effect_changes (calls.Hide s) answer before after right (is, arranged) = arranged.pixels
effect_changes (calls.ShowHide c) answer before after right (is, arranged) = arranged.pixels
effect_changes (calls.Size z) answer before after right done = sized_changes z (record_with z.window before.desk.windows) answer before after right done
effect_changes (calls.Zoom z) answer before after right done = zoomed_changes (zoom_of z.part) z.window (record_with z.window before.desk.windows) answer before after right done
effect_changes _ answer before after right done = unchanged_changes before after right done.1

-- a call that is narrowed to some pixels tells them
narrowed_is_none : (call : WindowCall) (before : DeskState) (set : PixelSet) → narrowed call before.activity before.begun ≡ Some set → change_of_window call before.windows.desk ≡ no_change
narrowed_is_none (calls.VisibleRegion s) before set is = refl
narrowed_is_none (calls.UpdateRegion s) before set is = refl
narrowed_is_none _ before set is = absurd (cc)

answer_changes : (asked : Option PixelSet) (call : WindowCall) (answer : WindowReply) (before after : DeskState) → narrowed call before.activity before.begun ≡ asked → IsRightState before.windows → IsWindowAnswer asked call (Ok answer) before after
    → IsRightState after.windows × IsChanged (change_of_window call before.windows.desk) (layered_state before.windows) (layered_state after.windows)
answer_changes None call answer before after is right step = (
  windowing.step_stays_right call (Ok answer) before.windows after.windows right step.1,
  effect_changes call answer before.windows after.windows right step.1.1,
)
answer_changes (Some set) call answer before after is right step = (
  unchanged_stays_right before.windows after.windows right step.1.windows,
  subst (λ c. IsChanged c (layered_state before.windows) (layered_state after.windows)) (sym (narrowed_is_none call before set is)) (unchanged_changes before.windows after.windows right step.1.windows),
)

-- ---- definitions that are told how their windows stand

keeps_heard : (flag : Flag) → KeepsLayers (with_heard flag)
keeps_heard Highlighting = record { serial = λ w. refl; place = λ w. refl; size = λ w. refl; shown = λ w. refl; picture = λ w. refl; origin = λ w. refl; layers = λ w. refl }
keeps_heard Zooming = record { serial = λ w. refl; place = λ w. refl; size = λ w. refl; shown = λ w. refl; picture = λ w. refl; origin = λ w. refl; layers = λ w. refl }

-- two windows have a pixel for the same owner
abbrev HaveSame : Look → Look → Point → WindowRecord → WindowRecord → Type 0
HaveSame look other p = IsAlike (λ o q. o ≡ q) (λ o e. refl) look other p

same_itself : (look other : Look) (p : Point) (w : WindowRecord) → HaveSame look other p w w
same_itself look other p w = record { inside = refl; content = refl; serial = refl; part = refl }

alike_itself : (look other : Look) (p : Point) (ws : List WindowRecord) → AllZip (HaveSame look other p) ws ws
alike_itself look other p [] = tt
alike_itself look other p (w ∷ ws) = (same_itself look other p w, alike_itself look other p ws)

-- of the windows one is changed that has its pixels still
alike_changed : (look other : Look) (p : Point) (s : ℕ) (f : WindowRecord → WindowRecord) (w : WindowRecord) → HaveSame look other p w (f w) → (ws : List WindowRecord) → record_with s ws ≡ Some w → AllZip (HaveSame look other p) ws (changed s f ws)
alike_changed look other p s f w alike [] found = tt
alike_changed look other p s f w alike (v ∷ vs) found = by_test (v.serial == s) found (alike_changed look other p s f w alike vs)
  where
    by_test : (b : Bool) → (if b then Some v else record_with s vs) ≡ Some w → (record_with s vs ≡ Some w → AllZip (HaveSame look other p) vs (changed s f vs))
        → AllZip (HaveSame look other p) (v ∷ vs) (if b then f v ∷ vs else v ∷ changed s f vs)
    by_test true e rest =
        let same : w ≡ v = cc in
        (subst (λ x. HaveSame look other p x (f x)) same alike, alike_itself look other p vs)
    by_test false e rest = (same_itself look other p v, rest e)

-- a definition that is told leaves the owners
pub told_keeps_owners : (s : ℕ) (news : WindowRecord → WindowNews → WindowNews) (kept : WindowRecord → WindowRecord) (before after : FullState) → KeepsLayers kept → IsFrameNotified s news kept before after → HaveSameOwners (layered_desk before.desk) (layered_desk after.desk)
told_keeps_owners s news kept before after keeps done = record {
  screen = λ p. sym (ap (λ (d : FullDesk). on_screen (layered_desk d) p) done.desk);
  owners = λ p. related_owners (λ o q. o ≡ q) (λ o e. refl) before.desk after.desk p (ap (λ (d : FullDesk). d.bar.rows) done.desk)
      (subst (λ ws. AllZip (HaveSame (look_of before.desk) (look_of after.desk) p) before.desk.windows ws) (sym (ap (λ (d : FullDesk). d.windows) done.desk))
      (alike_changed (look_of before.desk) (look_of after.desk) p s (λ w. record (kept w) { definition = done.definition }) done.window (alike p) before.desk.windows done.found));
}
  where
    alike : (p : Point) → HaveSame (look_of before.desk) (look_of after.desk) p done.window (record (kept done.window) { definition = done.definition })
    alike p = record {
      inside = λ i. sym (keeps.shown done.window) i && sym done.told.regions.structure i (sym (keeps.size done.window) i) (minus p (sym (keeps.place done.window) i));
      content = λ i. sym done.told.regions.content i (sym (keeps.size done.window) i) (minus p (sym (keeps.place done.window) i));
      serial = sym (keeps.serial done.window);
      part = λ i. Content (sym (keeps.serial done.window) i) (part_at (sym (keeps.layers done.window) i) (minus p (sym (keeps.place done.window) i)));
    }

-- what holds of a state once it was changed so from a first one
pub record IsRightlyChanged (c : Change) (first : State) (s : FullState) : Type 0 where
  pub right : IsRightState s
  pub changed : IsChanged c first (layered_state s)

abbrev GoesOn : FullState → FullState → Type 0
GoesOn before after = (c : Change) (first : State) → IsRightlyChanged c first before → IsRightlyChanged c first after

pub told_goes_on : (s : ℕ) (news : WindowRecord → WindowNews → WindowNews) (kept : WindowRecord → WindowRecord) (before after : FullState) → KeepsLayers kept → IsFrameNotified s news kept before after → GoesOn before after
told_goes_on s news kept before after keeps done c first was =
    let right = frame_told_stays_right s news kept before after keeps was.right done in
    record {
      right = right;
      changed = then_nothing c first (layered_state before) (layered_state after) (told_keeps_owners s news kept before after keeps done) was.changed done.pixels right.plain;
    }

following_goes_on : HoldsOfFollowing GoesOn
following_goes_on = record {
  same = λ s c first was. was;
  joined = λ first middle last one next c start was. next c start (one c start was);
  told = λ flag s before after done. told_goes_on s (told_flag flag) (with_heard flag) before after (keeps_heard flag) done;
}

caught_up_goes_on : (standing : Standing) (before after : FullState) → IsCaughtUpBy standing before after → GoesOn before after
caught_up_goes_on = of_caught_up GoesOn following_goes_on

-- ---- the whole call

-- what is shown of controls and lists that stay is right still
shown_goes_on : (before after : FullState) (c : Change) (first : State) → after.desk ≡ record before.desk { shows = after.desk.shows } → after.stale ≡ before.stale → after.image ≡ before.image → IsRightState after
    → IsRightlyChanged c first before → IsChanged c first (layered_state after)
shown_goes_on before after c first desk stale image right was =
    let same = same_but_shows before.desk after.desk desk in
    then_nothing c first (layered_state before) (layered_state after) same was.changed
    (nothing_changed (layered_state before) (layered_state after) same was.right.plain right.plain (λ p on i. stale i p) (λ p on i. image i p))
    right.plain

pub done_changes : (call : WindowCall) (answer : WindowReply) (before after : ToolboxState) → IsRightState before.desk.windows → IsRightState after.desk.windows → IsWindowDone call answer before after
    → IsChanged (change_of_window call before.desk.windows.desk) (layered_state before.desk.windows) (layered_state after.desk.windows)
done_changes call answer before after was right done =
    let change = change_of_window call before.desk.windows.desk in
    let first = layered_state before.desk.windows in
    let answered = answer_changes (narrowed call before.desk.activity before.desk.begun) call answer before.desk done.middle refl was done.answered in
    let told = caught_up_goes_on (window_standing call) done.middle.windows done.told done.caught_up change first (record { right = answered.0; changed = answered.1 }) in
    shown_goes_on done.told after.desk.windows change first
    (ap (λ (s : FullState). s.desk) done.shown ∙ (λ i. record done.told.desk { shows = (sym done.shown i).desk.shows }))
    (ap (λ (s : FullState). s.stale) done.shown) (ap (λ (s : FullState). s.image) done.shown) right told

refused_answer : (asked : Option PixelSet) (call : WindowCall) (e : Refusal) (before after : DeskState) → IsWindowAnswer asked call (Err e) before after → IsUnchanged before.windows after.windows
refused_answer None call e before after step = step.1.1
refused_answer (Some set) call e before after step = step.1.windows

pub refused_unchanged : (call : WindowCall) (e : Refusal) (before after : ToolboxState) → IsWindowMade call (Err e) before after → IsUnchanged before.desk.windows after.desk.windows
refused_unchanged call e before after step = refused_answer (narrowed call before.desk.activity before.desk.begun) call e before.desk after.desk step.0
