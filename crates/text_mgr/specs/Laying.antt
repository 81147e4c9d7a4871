-- How a text record comes to lie in its window, as the code does it.
use Rattle.std.specs.Prelude.{◌≡◌, Bool, true, false, Result, Ok, Err, Some, slice_get}
use Rattle.tb_geom.specs.declared.point.Point.{Point}
use Rattle.tb_geom.specs.declared.rect.Rect.{Rect}
use Rattle.tb_geom.specs.declared.refusal.Refusal.{Refusal}
use Rattle.tb_geom.specs.declared.refusal.Refusal.TheVariants.{NoMemory}
use Rattle.tb_geom.specs.Pixels.{holds}
use Rattle.tb_geom.specs.Rects.{is_in_range, moved_rect, rect_holds}
use Rattle.desk_call.specs.declared.text.TextCall.{TextCall}
use Rattle.desk_call.specs.declared.text.TextCall.TheVariants.{Show, Hide}
use Rattle.desk_call.specs.declared.text.TextOf.{TextOf}
use Rattle.desk_call.specs.declared.text.TextReply.{TextReply}
use Rattle.desk_call.specs.declared.text.TextReply.TheVariants.{Done}
use Rattle.text_record.specs.Changes.{placed, shown_as}
use Rattle.text_record.specs.Placings.{box_of, is_placing}
use Rattle.text_record.specs.Texts.{Record, placing_of}
use Rattle.window_list.specs.declared.layer.LayerShape.{LayerShape}
use Rattle.window_list.specs.declared.window.Window.{Window}
use Rattle.window_mgr.specs.declared.manager.WindowManager.{WindowManager}
use Rattle.window_mgr.specs.Edits.{IsWindowAt}
use Rattle.text_mgr.specs.declared.laying.Lie.{Lie}
use Rattle.text_mgr.specs.declared.spots.TextAt.{TextAt}
use Rattle.text_mgr.specs.declared.texts.Texts.{Texts}
use Rattle.text_mgr.specs.TextDesks.{IsTextDeskUnchanged, KeptText, TextDesk}
use Rattle.text_mgr.specs.TextSteps.{IsTextLaid}

-- the record, lying so
abbrev pub laid : Lie → Record → Record
laid l r = placed l.placing (shown_as l.shown r)

-- the text record lies so
pub record IsLieOf (l : Lie) (x : KeptText) : Type 0 where
  pub placing : l.placing ≡ placing_of x.kept
  pub shown : l.shown ≡ x.kept.shown

-- the shape of a record with this box
pub record IsBoxShape (box : Rect) (seen : Bool) (s : LayerShape) : Type 0 where
  pub shown : s.shown ≡ seen
  pub region : (p : Point) → holds s.region p ≡ rect_holds box p
  pub bounds : s.bounds ≡ box

-- the text record at this place may lie so in its window
abbrev pub MayLie : {V : Type 0} {H : V → Type 0} → WindowManager V H → Texts → TextAt → Lie → Type 0
MayLie t m s l = (x : KeptText) (w : Window _ _) → slice_get m.list.items.items s.text ≡ Some x
    → IsWindowAt t.windows.records.items s.window w
    → (is_placing x.kept.framed l.placing ≡ true)
    × (is_in_range (box_of x.kept.framed l.placing.view) ≡ true)
    × (is_in_range (moved_rect (box_of x.kept.framed l.placing.view) w.place.h w.place.v) ≡ true)

-- the call that shows a text record, or hides it
abbrev pub shown_call : Bool → TextOf → TextCall
shown_call true t = Show t
shown_call false t = Hide t

-- the text record was laid so, or there was no memory for it
abbrev pub IsLaidOrShort : TextOf → (Record → Record) → Result TextReply Refusal → TextDesk → TextDesk → Type 0
IsLaidOrShort t f (Ok answer) before after = (answer ≡ Done) × IsTextLaid t f before after
IsLaidOrShort t f (Err e) before after = (e ≡ NoMemory) × IsTextDeskUnchanged before after
