-- Each state that a Toolbox reaches is consistent.
use Rattle.std.proofs.Common.{◌≡◌, ℕ, ◌≤◌, true, List, [], ◌∷◌, length, map, Result, Ok, refl, sym, ap, ◌∙◌, subst, arith}
use Rattle.std.specs.Prelude.{IfSome, pos}
use Rattle.std.proofs.lemmas.List.Elements.{All-nil, All-same}
use Rattle.tb_geom.specs.declared.refusal.Refusal.{Refusal}
use Rattle.event_queue.specs.declared.event.Event.{Event}
use Rattle.event_queue.specs.Events.{is_posted}
use Rattle.desk_call.specs.declared.call.Call.{Call}
use Rattle.desk_call.specs.declared.call.Reply.{Reply}
use Rattle.def_iface.specs.WindowMeaning.{WindowDefinition}
use Rattle.menu_list.specs.Lists.{is_in_bar, titles_of}
use Rattle.menu_mgr.specs.WholeMenus.{AreMenusStocked}
use Rattle.menu_mgr.proofs.Stocks.{stocked_by_full}
use Rattle.vis_update.specs.Records.{WindowRecord}
use Rattle.window_frame.specs.Followers.{Knows}
use Rattle.window_frame.specs.Followers.Flag.{Highlighting, Zooming}
use Rattle.text_mgr.specs.TextDesks.{KeptText}
use Rattle.text_mgr.specs.WholeTexts.{IsSelectable}
use Rattle.desk_toolbox.specs.declared.events.Events.{Events}
use Rattle.desk_toolbox.specs.Classes.{AreClassed, IsOrdinary}
use Rattle.desk_toolbox.specs.Reached.{AreMenusApart, HasLiveDefinition, IsHeld, IsLit, IsPulledThere, IsThere, IsTrackedIfHeard, IsConsistent, IsJustBegun, open_window}
use Rattle.desk_toolbox.specs.Run.{IsStep, IsRunOfCalls}
use Rattle.desk_toolbox.specs.ToolboxStates.{ToolboxState}
use Rattle.desk_toolbox.proofs.EachManager.{HoldsOfEach, of_step}
use Rattle.desk_call.specs.declared.window.WindowCall.TheVariants as window_calls
use Rattle.desk_call.specs.declared.window.WindowReply.TheVariants as window_reply
use Rattle.desk_toolbox.specs.Run.{put_down}
use Rattle.desk_toolbox.proofs.OutlineStands.{outline_comes_then, outline_stands, put_down_stands}
use Rattle.desk_toolbox.proofs.Runs.{step_stays_right}
use Rattle.desk_toolbox.proofs.Stands.{Stands, stands, consistent, stands_still, event_stands, window_stands}
use Rattle.desk_toolbox.proofs.StandsOpen.{update_stands, frame_stands}
use Rattle.desk_toolbox.proofs.MenuStands.{menu_stands}
use Rattle.desk_toolbox.proofs.ContentsBeside.{IsRightToolbox}
use Rattle.desk_toolbox.proofs.HeldSteps.{step_keeps_held}
use Rattle.desk_laws.proofs.HeldWindows.{step_keeps_stocked}
use Rattle.desk_laws.proofs.LiveDefinitions.{step_keeps_live}
use Rattle.desk_laws.proofs.KeptClasses.{step_stays_classed}
use Rattle.desk_toolbox.proofs.TrackedControls.{control_stands, none_used_at}
use Rattle.desk_toolbox.proofs.ListStands.{begun_contents, list_stands}
use Rattle.desk_toolbox.proofs.TextStands.{text_stands}
use Rattle.desk_laws.proofs.GivenBars.{step_keeps_bars}
use Rattle.desk_laws.proofs.HeldTexts.{step_keeps_texts}
use Rattle.desk_laws.proofs.KeptSelectables.{step_keeps_selectable}
use Rattle.control_mgr.specs.InUse.{AreStocked}
use Rattle.control_mgr.specs.WholeControls.{IsTrackable}
use Rattle.list_mgr.specs.GivenBars.{HasGivenBars, IsFromOne}

abbrev GoesOnStanding : Call → Result Reply Refusal → ToolboxState → ToolboxState → Type 0
GoesOnStanding call answer before after = Stands before → IsRightToolbox after → Stands after

each_stands : HoldsOfEach GoesOnStanding
each_stands = record {
  unchanged = λ call e before after same was right. stands_still before after same.desk.windows.desk same.desk.activity same.controls same.menus same.events was right;
  covered = λ p before after same was right. stands_still before after same.desk.windows.desk same.desk.activity same.controls same.menus same.events was right;
  hidden = λ p before after same was right. stands_still before after same.desk.windows.desk same.desk.activity same.controls same.menus same.events was right;
  window = λ call answer before after may step was right. window_stands call answer before after may was right step;
  update = λ call answer before after may step rest was right. update_stands call answer before after may was right step rest;
  frame = λ call answer before after may step rest was right. frame_stands call answer before after may was right step rest;
  control = λ call answer before after may step events lists texts menus was right. control_stands call answer before after may was right step events menus;
  list = λ call answer before after may step events texts menus was right. list_stands call answer before after may was right step events menus;
  text = λ call answer before after may step events controls lists menus was right. text_stands call answer before after may was right step events controls menus;
  menu = λ call answer before after may step events controls lists texts was right. menu_stands call answer before after may was right step events;
  outline = λ call answer before after may step rest was right. outline_stands call answer before after may was right step rest;
  moved = λ call move before after may step was right. window_stands (window_calls.Move move) (Ok window_reply.Done) (put_down before) after refl (put_down_stands before (outline_comes_then call before.desk.activity may) was) right step;
  event = λ call answer before after step was right. event_stands call answer before after was right step;
}

step_stands : (call : Call) (answer : Result Reply Refusal) (before after : ToolboxState) → Stands before → IsStep call answer before after → Stands after
step_stands call answer before after was step = of_step GoesOnStanding each_stands call answer before after step was (step_stays_right call answer before after (record { right = was.right; contents = was.contents }) step)

pub step_keeps_consistent : (call : Call) (answer : Result Reply Refusal) (before after : ToolboxState) → IsConsistent before → IsStep call answer before after → IsConsistent after
step_keeps_consistent call answer before after was step =
    let now = step_stands call answer before after (stands before was) step in
    consistent after now (step_keeps_stocked call answer before after step was.held) (step_keeps_live call answer before after step was.live)
    (step_stays_classed call answer before after step was.classed)
    (step_keeps_held call answer before after step now.pull.pulled (record { stocked = was.stocked; title = was.title }))
    (step_keeps_bars call answer before after step was.bars)
    (step_keeps_selectable call answer before after step was.records was.selectable)
    (step_keeps_texts call answer before after step was.selectable was.records)

pub run_keeps_consistent : (first last : ToolboxState) (calls : List Call) (answers : List (Result Reply Refusal)) → IsConsistent first → IsRunOfCalls first calls answers last → IsConsistent last
run_keeps_consistent first last [] [] was run = subst IsConsistent (sym run) was
run_keeps_consistent first last [] (answer ∷ answers) was run = absurd run
run_keeps_consistent first last (call ∷ calls) [] was run = absurd run
run_keeps_consistent first last (call ∷ calls) (answer ∷ answers) was run =
    run_keeps_consistent run.0 last calls answers (step_keeps_consistent call answer first run.0 was run.1) run.2

-- ---- at the beginning

pub just_begun_is_consistent : (s : ToolboxState) → IsJustBegun s → IsConsistent s
just_begun_is_consistent s begun =
    let windows = s.desk.windows.desk.windows in
    record {
      right = begun.right;
      active = subst (λ o. IsOrdinary o windows) (sym begun.active) tt;
      told = subst (λ (e : Events). IsOrdinary e.told windows) (sym begun.events) tt;
      classed = subst AreClassed (sym begun.windows) tt;
      opened = subst (λ a. IsThere (open_window a) windows) (sym begun.idle) tt;
      contents = begun_contents s begun;
      trackable = subst (λ a. IsTrackable a s.controls.controls) (sym begun.idle) tt;
      selectable = subst (λ a. IsSelectable a s.texts.texts) (sym begun.idle) tt;
      records = record {
        texts = All-same (λ (t : KeptText). IsHeld t.kept) s.texts.texts [] begun.texts (All-nil (λ (t : KeptText). IsHeld t.kept));
        scrap = subst (λ (bytes : List ℕ). length bytes ≤ 32000) (sym begun.scrap) (omega arith);
      };
      bars = (subst IsFromOne (sym begun.next_control) (omega arith), All-same (HasGivenBars s.controls.next) s.lists.lists [] begun.lists (All-nil (HasGivenBars s.controls.next)));
      queued = All-same (λ (e : Event). is_posted e.what ≡ true) s.events.queue.events [] (ap (λ (e : Events). e.queue.events) begun.events) (All-nil (λ (e : Event). is_posted e.what ≡ true));
      held = subst (λ (ws : List WindowRecord). AreStocked (λ (d : WindowDefinition). d.stage) (map (λ w. w.slot) ws) s.desk.windows.desk.stock) (sym begun.windows) (λ k. none_used_at (λ (d : WindowDefinition). d.stage) s.desk.windows.desk.stock k begun.stock);
      live = All-same HasLiveDefinition windows [] begun.windows (All-nil HasLiveDefinition);
      informed = All-same (λ (w : WindowRecord). Knows Highlighting w × Knows Zooming w) windows [] begun.windows (All-nil (λ (w : WindowRecord). Knows Highlighting w × Knows Zooming w));
      tracked = All-same (IsTrackedIfHeard s.desk.activity) windows [] begun.windows (All-nil (IsTrackedIfHeard s.desk.activity));
      bar = begun.titles ∙ sym (λ i. titles_of (begun.highlighted i) (begun.menus i));
      apart = subst AreMenusApart (sym begun.menus) (λ id. omega arith);
      pulled = subst (λ a. IsPulledThere a s.menus) (sym begun.idle) tt;
      lit = All-same (IsLit s.desk.activity) s.menus.menus [] begun.menus (All-nil (IsLit s.desk.activity));
      title = subst (λ o. IfSome o (λ id. is_in_bar (pos id) s.menus.menus ≡ true)) (sym begun.highlighted) tt;
      stocked = subst (λ ls. AreMenusStocked ls s.menus.stock) (sym begun.menus) (stocked_by_full s.menus.stock begun.kept);
    }
