-- The steps of updates keep a right state right.
use Rattle.std.proofs.Common.{◌≡◌, Bool, true, false, ◌&&◌, if◌then◌else◌, Option, None, Some, Result, Ok, Err, refl, sym, ap, ◌∙◌}
use Rattle.tb_geom.specs.declared.point.Point.{Point}
use Rattle.tb_geom.specs.declared.refusal.Refusal.{Refusal}
use Rattle.tb_geom.specs.declared.refusal.Refusal.TheVariants.{StalePixels}
use Rattle.tb_geom.specs.Points.{PixelSet, minus}
use Rattle.tb_geom.specs.Pixels.{holds}
use Rattle.region_bytes.proofs.Decoded.{same_set}
use Rattle.desk_layers.specs.Desk as layers
use Rattle.desk_layers.specs.Owner.{owner}
use Rattle.desk_layers.specs.Scratch.{scratch}
use Rattle.desk_call.specs.declared.update.AreaRef.{AreaRef}
use Rattle.desk_call.specs.declared.update.AreaRef.TheVariants.{Rect, Region}
use Rattle.desk_call.specs.declared.update.UpdateCall.{UpdateCall}
use Rattle.desk_call.specs.declared.update.UpdateCall.TheVariants.{Invalidate, Validate, Begin, Draw, End, Serve}
use Rattle.desk_call.specs.declared.update.WindowArea.{WindowArea}
use Rattle.desk_call.specs.declared.window.WindowReply.{WindowReply}
use Rattle.vis_update.specs.Areas.{is_content_of}
use Rattle.vis_update.specs.Records.{WindowRecord}
use Rattle.window_mgr.specs.Finding.{record_with}
use Rattle.window_mgr.specs.FullDesk.{FullState, IsRightState, layered_desk}
use Rattle.window_mgr.specs.Updating.{is_of_kind}
use Rattle.window_mgr.proofs.Running.{unchanged_stays_right}
use Rattle.window_mgr.proofs.UpdateSteps.{added_stays_right, taken_stays_right, refreshed_stays_right}
use Rattle.window_update.specs.Sets.{IsAreaOf, marked_in, on_place}
use Rattle.window_update.specs.Rightness.{IsJudgement}
use Rattle.window_mgr.specs.DeskStates.{DeskState}
use Rattle.window_update.specs.UpdateRefusals.{IsStaleRefusal}
use Rattle.window_update.specs.UpdateSteps.{IsUpdateStep}

-- an area is one set of pixels
one_area : (area : AreaRef) (set other : PixelSet) → IsAreaOf area set → IsAreaOf area other → (p : Point) → set p ≡ other p
one_area (Rect r) set other its is p = its p ∙ sym (is p)
one_area (Region bytes) set other (g, its, set_is) (h, is, other_is) p = set_is p ∙ ap (λ s. holds s p) (same_set bytes g h its is) ∙ sym (other_is p)

-- what was not refused as stale is right
was_right : (m : WindowArea) (state : FullState) (by_area : Option Refusal) → IsStaleRefusal m state by_area None → (set : PixelSet) → IsAreaOf m.area set
    → (p : Point) → layers.on_screen (layered_desk state.desk) p ≡ true → marked_in m.window set state.desk (owner (layered_desk state.desk) p) p ≡ true → state.image p ≡ scratch (layered_desk state.desk) p
was_right m state (Some e) h set is_set = absurd (cc)
was_right m state None (other, is_other, (right, judged, why)) set is_set = by_test right judged why
  where
    same_mark : (o : Option WindowRecord) (p : Point) → on_place o set p ≡ on_place o other p
    same_mark None p = refl
    same_mark (Some w) p = one_area m.area set other is_set is_other (minus p w.place)

    by_test : (b : Bool) → IsJudgement m.window other state b → (if b then None else Some StalePixels) ≡ None → (p : Point) → layers.on_screen (layered_desk state.desk) p ≡ true → marked_in m.window set state.desk (owner (layered_desk state.desk) p) p ≡ true → state.image p ≡ scratch (layered_desk state.desk) p
    by_test true all e p on its = all p on (sym (ap (λ b. is_content_of m.window (owner (layered_desk state.desk) p) && b) (same_mark (record_with m.window state.desk.windows) p)) ∙ its)
    by_test false all e p on its = absurd (cc)

pub update_stays_right : (call : UpdateCall) (answer : Result WindowReply Refusal) (before after : DeskState) → IsRightState before.windows → IsUpdateStep call answer before after → IsRightState after.windows
update_stays_right (Invalidate m) (Ok answer) before after right (free, (done, (same, (set, is_set, marked)))) =
    added_stays_right (marked_in m.window set before.windows.desk) before.windows after.windows marked.desk marked.pixels right
update_stays_right (Validate m) (Ok answer) before after right (free, (done, (same, (set, is_set, marked)))) =
    taken_stays_right (marked_in m.window set before.windows.desk) before.windows after.windows marked.desk marked.pixels (was_right m before.windows free.0 free.2 set is_set) right
update_stays_right (Begin s) (Ok answer) before after right (free, (done, begun)) = unchanged_stays_right before.windows after.windows right begun.windows
update_stays_right (Draw d) (Ok answer) before after right (free, (done, (same, drawn))) = refreshed_stays_right (is_of_kind d.layers d.window) before.windows after.windows right drawn
update_stays_right (End s) (Ok answer) before after right (free, (done, (idle, same))) = unchanged_stays_right before.windows after.windows right same
update_stays_right (Serve s) (Ok answer) before after right (free, (done, (idle, drawn))) = refreshed_stays_right (is_content_of s) before.windows after.windows right drawn
update_stays_right (Invalidate m) (Err e) before after right (why, same) = unchanged_stays_right before.windows after.windows right same.windows
update_stays_right (Validate m) (Err e) before after right (why, same) = unchanged_stays_right before.windows after.windows right same.windows
update_stays_right (Begin s) (Err e) before after right (why, same) = unchanged_stays_right before.windows after.windows right same.windows
update_stays_right (Draw d) (Err e) before after right (why, same) = unchanged_stays_right before.windows after.windows right same.windows
update_stays_right (End s) (Err e) before after right (why, same) = unchanged_stays_right before.windows after.windows right same.windows
update_stays_right (Serve s) (Err e) before after right (why, same) = unchanged_stays_right before.windows after.windows right same.windows
