-- The headline holds of each state that a run leaves from a desk that just began.
use Rattle.std.proofs.Common.{◌≡◌, ◌↔◌, ℕ, Bool, true, false, if◌then◌else◌, List, [], ◌∷◌, map, Result, refl, sym, ap, ◌∙◌}
use Rattle.std.proofs.lemmas.Bool.{false≢true}
use Rattle.tb_geom.specs.declared.point.Point.{Point}
use Rattle.tb_geom.specs.declared.refusal.Refusal.{Refusal}
use Rattle.desk_layers.specs.Desk.{in_bar, on_screen}
use Rattle.desk_layers.specs.Owner.{is_content, owner, owner_among}
use Rattle.desk_layers.specs.Owner.Owner.{Bar}
use Rattle.desk_call.specs.declared.call.Call.{Call}
use Rattle.desk_call.specs.declared.call.Reply.{Reply}
use Rattle.vis_update.specs.Records.{WindowRecord, layered_window}
use Rattle.window_mgr.specs.FullDesk.{FullState, IsRightState, layered_desk, look_of}
use Rattle.window_mgr.specs.Telling.{update_of}
use Rattle.desk_toolbox.specs.Reached.{IsConsistent, IsJustBegun}
use Rattle.desk_toolbox.specs.Run.{IsRunOf, IsRunOfCalls}
use Rattle.desk_toolbox.specs.ToolboxStates.{ToolboxState}
use Rattle.desk_laws.specs.Headline.{IsHeadline, IsNoneStale, IsStaleStep}
use Rattle.desk_laws.specs.Regions.{IsInRegion}
use Rattle.desk_laws.proofs.Consistent.{just_begun_is_consistent, run_keeps_consistent, step_keeps_consistent}
use Rattle.desk_laws.proofs.EachChange.{each_changes}
use Rattle.desk_laws.proofs.FindLaws.{control_is_found_by_owner}
use Rattle.desk_laws.proofs.FindWindowLaws.{window_is_found_by_owner}
use Rattle.desk_laws.proofs.FrontLaws.{screen_is_right, served_run_shows_all_right}
use Rattle.desk_laws.proofs.RegionLaws.{stale_is_in_one, update_where_stale}
use Rattle.desk_laws.proofs.Shown.{windows_go_by_records}

-- a desk without windows has no content
no_content : (s : FullState) → s.desk.windows ≡ [] → (p : Point) → is_content (owner (layered_desk s.desk) p) ≡ false
no_content s none p = by_bar (in_bar (layered_desk s.desk) p)
  where
    by_bar : (b : Bool) → is_content (if b then Bar else owner_among (map (layered_window (look_of s.desk)) s.desk.windows) p) ≡ false
    by_bar true = refl
    by_bar false = ap (λ (ws : List WindowRecord). is_content (owner_among (map (layered_window (look_of s.desk)) ws) p)) none

none_at_first : (first : ToolboxState) → IsJustBegun first → IsNoneStale first.desk.windows
none_at_first first begun p on = by_test (first.desk.windows.stale p) refl
  where
    by_test : (b : Bool) → first.desk.windows.stale p ≡ b → b ≡ false
    by_test true e = absurd (false≢true (sym (no_content first.desk.windows begun.windows p) ∙ begun.right.plain.content p on e))
    by_test false e = refl

-- a pixel is stale just where it lies in an update region
stale_in_regions : (s : FullState) → IsRightState s → (p : Point) → on_screen (layered_desk s.desk) p ≡ true → (s.stale p ≡ true) ↔ ((window : ℕ) × IsInRegion update_of window s p)
stale_in_regions s right p on = (
  λ old. stale_is_in_one s p right on old,
  λ (window, inside). ((update_where_stale window s p).0 inside).1,
)

stale_by_calls : (first last : ToolboxState) (calls : List Call) (answers : List (Result Reply Refusal)) → IsConsistent first → IsRunOfCalls first calls answers last → IsRunOf IsStaleStep first calls answers last
stale_by_calls first last [] [] was run = run
stale_by_calls first last [] (answer ∷ answers) was run = absurd run
stale_by_calls first last (call ∷ calls) [] was run = absurd run
stale_by_calls first last (call ∷ calls) (answer ∷ answers) was (middle, step, rest) = (
  middle,
  (step, (each_changes call answer first middle was step).stale),
  stale_by_calls middle last calls answers (step_keeps_consistent call answer first middle was step) rest,
)

pub headline_holds : (first last : ToolboxState) (calls : List Call) (answers : List (Result Reply Refusal)) → IsJustBegun first → IsRunOfCalls first calls answers last → IsHeadline first calls answers last
headline_holds first last calls answers begun run =
    let was = just_begun_is_consistent first begun in
    let now = run_keeps_consistent first last calls answers was run in
    record {
      screen = screen_is_right last now.right;
      served = served_run_shows_all_right first last calls answers was.right was.contents run;
      contents = now.contents;
      records = windows_go_by_records last now;
      regions = stale_in_regions last.desk.windows now.right;
      none = none_at_first first begun;
      exact = stale_by_calls first last calls answers was run;
      window = λ p answer after. window_is_found_by_owner p answer last after;
      control = λ asked answer after there on step. (control_is_found_by_owner asked answer last after there on step).0;
    }
