use Rattle.std.proofs.Common.{refl, sym, ap, ◌∙◌}
use Rattle.desk_call.specs.declared.window.WindowReply.TheVariants as reply
use Rattle.window_mgr.proofs.FindLemmas.{front-records}
use Rattle.window_mgr.proofs.SameDeskLemmas.{on_refusal}
use Rattle.window_mgr.proofs.manager.WindowManager.perform.Goals as goal

pub returns-in-Show : goal.returns-in-Show
returns-in-Show g c = let done = c.show_hide.ensures.step _ c.requires in record { whole = done.0; step = rw c.in-Show.is (done.1); sparing = rw c.in-Show.is (c.show_hide.ensures.sparing); quiet = c.show_hide.ensures.quiet }

pub returns-in-Hide : goal.returns-in-Hide
returns-in-Hide g c = let done = c.show_hide-in-Hide.ensures.step _ c.requires in record { whole = done.0; step = rw c.in-Hide.is (done.1); sparing = rw c.in-Hide.is (c.show_hide-in-Hide.ensures.sparing); quiet = c.show_hide-in-Hide.ensures.quiet }

pub returns-in-ShowHide : goal.returns-in-ShowHide
returns-in-ShowHide g c = let done = c.show_hide-in-ShowHide.ensures.step _ c.requires in record { whole = done.0; step = rw c.in-ShowHide.is (done.1); sparing = rw c.in-ShowHide.is (c.show_hide-in-ShowHide.ensures.sparing); quiet = c.show_hide-in-ShowHide.ensures.quiet }

pub returns-in-Select : goal.returns-in-Select
returns-in-Select g c = let done = c.bring_to_front.ensures.step _ c.requires in record { whole = done.0; step = rw c.in-Select.is (done.1); sparing = rw c.in-Select.is (c.bring_to_front.ensures.sparing); quiet = c.bring_to_front.ensures.quiet }

pub returns-in-BringToFront : goal.returns-in-BringToFront
returns-in-BringToFront g c = let done = c.bring_to_front-in-BringToFront.ensures.step _ c.requires in record { whole = done.0; step = rw c.in-BringToFront.is (done.1); sparing = rw c.in-BringToFront.is (c.bring_to_front-in-BringToFront.ensures.sparing); quiet = c.bring_to_front-in-BringToFront.ensures.quiet }

pub returns-in-SendBehind : goal.returns-in-SendBehind
returns-in-SendBehind g c = let done = c.send_behind.ensures.step _ c.requires in record { whole = done.0; step = rw c.in-SendBehind.is (done.1); sparing = rw c.in-SendBehind.is (c.send_behind.ensures.sparing); quiet = c.send_behind.ensures.quiet }

pub returns-in-Move : goal.returns-in-Move
returns-in-Move g c = let done = c.move_window.ensures.step _ c.requires in record { whole = done.0; step = rw c.in-Move.is (done.1); sparing = rw c.in-Move.is (c.move_window.ensures.sparing); quiet = c.move_window.ensures.quiet }

pub returns-in-Size : goal.returns-in-Size
returns-in-Size g c = let done = c.size_window.ensures.step _ c.requires in record { whole = done.0; step = rw c.in-Size.is (done.1); sparing = rw c.in-Size.is (c.size_window.ensures.sparing); quiet = c.size_window.ensures.quiet }

pub returns-in-Zoom : goal.returns-in-Zoom
returns-in-Zoom g c = let done = c.zoom_window.ensures.step _ c.requires in record { whole = done.0; step = rw c.in-Zoom.is (done.1); sparing = rw c.in-Zoom.is tt; quiet = c.zoom_window.ensures.quiet }

pub returns-in-Draw : goal.returns-in-Draw
returns-in-Draw g c = let done = c.draw.ensures.step _ c.requires in record { whole = done.0; step = rw c.in-Draw.is (done.1); sparing = rw c.in-Draw.is tt; quiet = c.draw.ensures.quiet }

pub returns-in-SetPicture : goal.returns-in-SetPicture
returns-in-SetPicture g c = let done = c.set_picture.ensures.step _ c.requires in record { whole = done.0; step = rw c.in-SetPicture.is (done.1); sparing = rw c.in-SetPicture.is tt; quiet = c.set_picture.ensures.quiet }

pub returns-in-Scroll : goal.returns-in-Scroll
returns-in-Scroll g c = let done = c.scroll.ensures.step _ c.requires in record { whole = done.0; step = rw c.in-Scroll.is (done.1); sparing = rw c.in-Scroll.is tt; quiet = c.scroll.ensures.quiet }

pub returns-in-Front : goal.returns-in-Front
returns-in-Front g c = record {
  whole = c.requires;
  step = rw c.in-Front.is (
    refl,
    (
      ap reply.Front (c.front.ensures ∙ sym (front-records _ c.args.self.now.windows.records.items)),
      record { desk = refl; stale = λ p on. refl; image = λ p on. refl },
    ),
  );
  sparing = rw c.in-Front.is tt;
  quiet = tt;
}

pub returns-in-Info : goal.returns-in-Info
returns-in-Info g c = let done = c.answer_info.ensures _ c.requires in record { whole = done.0; step = rw c.in-Info.is (done.1); sparing = rw c.in-Info.is tt; quiet = on_refusal c.answer_info.result _ refl }

pub returns-in-Region : goal.returns-in-Region
returns-in-Region g c = let done = c.answer_asked.ensures _ c.requires in record { whole = done.0; step = rw c.in-Region.is (done.1); sparing = rw c.in-Region.is tt; quiet = on_refusal c.answer_asked.result _ refl }

pub returns-in-VisibleRegion : goal.returns-in-VisibleRegion
returns-in-VisibleRegion g c = let done = c.answer_region.ensures.step _ c.requires in record { whole = done.0; step = rw c.in-VisibleRegion.is (done.1); sparing = rw c.in-VisibleRegion.is tt; quiet = on_refusal c.answer_region.result _ c.answer_region.ensures.quiet }

pub returns-in-UpdateRegion : goal.returns-in-UpdateRegion
returns-in-UpdateRegion g c = let done = c.answer_region-in-UpdateRegion.ensures.step _ c.requires in record { whole = done.0; step = rw c.in-UpdateRegion.is (done.1); sparing = rw c.in-UpdateRegion.is tt; quiet = on_refusal c.answer_region-in-UpdateRegion.result _ c.answer_region-in-UpdateRegion.ensures.quiet }
