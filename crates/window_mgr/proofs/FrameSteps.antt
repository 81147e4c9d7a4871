-- A desk of which one window's definition was told something that leaves where the window stands.
use Rattle.std.proofs.Common.{◌≡◌, ℕ, zero, suc, ◌==◌, true, false, if◌then◌else◌, List, [], ◌∷◌, ◌++◌, map, Some, refl, sym, ap, ◌∙◌}
use Rattle.tb_geom.specs.declared.point.Point.{Point}
use Rattle.tb_geom.specs.Points.{minus}
use Rattle.draw_port.specs.Ops.{picture_bit}
use Rattle.def_iface.specs.WindowNews.{no_news, told_change}
use Rattle.def_iface.specs.declared.window_def.WindowChange.{WindowChange}
use Rattle.def_iface.specs.declared.window_def.WindowChange.TheVariants.{Resized, Titled, Highlighted, Closable, Zoomed, Tracked}
use Rattle.def_iface.specs.WindowMeaning.{WindowDefinition, SameRegions, WindowHears, WindowGoesBy}
use Rattle.desk_layers.specs.Desk as layers
use Rattle.desk_layers.specs.declared.part.Part.TheVariants.{Picture}
use Rattle.desk_layers.specs.Owner.{owner, owner_among, owner_within, own_bit, frame_bit}
use Rattle.desk_layers.specs.Owner.Owner.{Bar, Frame}
use Rattle.def_iface.proofs.Hearing.{goes_by_news}
use Rattle.desk_layers.proofs.Owning.{same_number}
use Rattle.window_list.specs.Changes.{keeps_size}
use Rattle.vis_update.specs.Records.{WindowRecord, Look, content_layer, layered_window, news_of}
use Rattle.window_mgr.specs.declared.arrange.Activation.TheVariants.{Stays}
use Rattle.window_mgr.specs.FrameNotices.{notified_record}
use Rattle.window_mgr.specs.FullDesk.{FullDesk, layered_desk, look_of}
use Rattle.window_mgr.proofs.Committing.{turned}
use Rattle.window_mgr.proofs.PutIn.{put_in, found_put}
use Rattle.window_mgr.proofs.Rearranged.{IsEdit, free, free_now, others_found}

-- ---- the record of the window

-- the record with the title, the highlighting, the go-away box and the news of that one, and with this definition
abbrev pub noted : WindowRecord → WindowDefinition → WindowRecord → WindowRecord
noted said d w = record w {
  title = said.title;
  highlighted = said.highlighted;
  go_away = said.go_away;
  heard = said.heard;
  definition = d;
}

-- nothing of a record becomes another but its title, its highlighting, its go-away box and what its definition heard
abbrev pub KeepsStand : (WindowRecord → WindowRecord) → Type 0
KeepsStand kept = (w : WindowRecord) → kept w ≡ noted (kept w) w.definition w

pub told_keeps : (change : WindowChange) → KeepsStand (notified_record change)
told_keeps (Resized s) w = refl
told_keeps (Titled t) w = refl
told_keeps (Highlighted b) w = refl
told_keeps (Closable b) w = refl
told_keeps (Zoomed b) w = refl
told_keeps (Tracked b) w = refl

-- its definition, told of the change, goes by the record as that is now
pub told_goes_by : (change : WindowChange) (w : WindowRecord) (d : WindowDefinition) → keeps_size change ≡ true
    → WindowGoesBy (news_of w) w.definition → WindowHears (told_change change) w.definition d → WindowGoesBy (news_of (noted (notified_record change w) d w)) d
told_goes_by (Resized s) w d keeps goes heard = absurd (cc)
told_goes_by (Titled t) w d keeps goes heard = goes_by_news (told_change (Titled t)) (news_of w) (news_of (noted (notified_record (Titled t) w) d w)) w.definition d (λ n. refl) (λ n. refl) goes heard
told_goes_by (Highlighted b) w d keeps goes heard = goes_by_news (told_change (Highlighted b)) (news_of w) (news_of (noted (notified_record (Highlighted b) w) d w)) w.definition d (λ n. refl) (λ n. refl) goes heard
told_goes_by (Closable b) w d keeps goes heard = goes_by_news (told_change (Closable b)) (news_of w) (news_of (noted (notified_record (Closable b) w) d w)) w.definition d (λ n. refl) (λ n. refl) goes heard
told_goes_by (Zoomed b) w d keeps goes heard = goes_by_news (told_change (Zoomed b)) (news_of w) (news_of (noted (notified_record (Zoomed b) w) d w)) w.definition d (λ n. refl) (λ n. refl) goes heard
told_goes_by (Tracked b) w d keeps goes heard = goes_by_news (told_change (Tracked b)) (news_of w) (news_of (noted (notified_record (Tracked b) w) d w)) w.definition d (λ n. refl) (λ n. refl) goes heard

-- ---- whose the pixels are

module _ (look : Look) (w : WindowRecord) (said : WindowRecord) (d : WindowDefinition) (regions : SameRegions w.definition d) where
  -- as layers the window has another frame alone
  same_layers : layered_window look (noted said d w) ≡ record (layered_window look w) { frame = d.picture no_news look.font }
  same_layers = λ k. record {
    serial = w.serial;
    place = w.place;
    shown = w.shown;
    structure = regions.structure k w.size;
    frame = d.picture no_news look.font;
    layers = map (content_layer look (regions.content k w.size)) w.layers ++ record { part = Picture; extent = regions.content k w.size; picture = λ p. picture_bit look.font w.picture (minus p w.origin) } ∷ [];
  }

  among_same : (i : ℕ) (rest : List WindowRecord) (p : Point) → owner_among (map (layered_window look) (put_in i (noted said d w) rest)) p ≡ owner_among (map (layered_window look) (put_in i w rest)) p
  among_same zero rest p = ap (λ l. owner_among (l ∷ map (layered_window look) rest) p) same_layers
  among_same (suc i) [] p = ap (λ l. owner_among (l ∷ []) p) same_layers
  among_same (suc i) (y ∷ ys) p = ap (λ o. if layers.in_structure (layered_window look y) p then owner_within (layered_window look y) (layered_window look y).layers p else o) (among_same i ys p)

-- ---- the desk

module _ (before : FullDesk) (distinct : layers.IsDesk (layered_desk before)) (i : ℕ) (w : WindowRecord) (rest : List WindowRecord) (windows : before.windows ≡ put_in i w rest) (said : WindowRecord) (d : WindowDefinition) (regions : SameRegions w.definition d) where
  abbrev v : WindowRecord
  v = noted said d w

  pub noted_edit : IsEdit before w.serial i i w v rest
  noted_edit = record { windows = windows; serial = refl; same_serial = refl; same_layers = refl }

  -- the desk with that window
  abbrev pub desk_noted : FullDesk
  desk_noted = record before { windows = put_in i v rest }

  -- each pixel has the owner that it had
  pub owner_same : (p : Point) → owner (layered_desk desk_noted) p ≡ owner (layered_desk before) p
  owner_same p =
      ap (λ o. if layers.in_bar (layered_desk before) p then Bar else o)
      (among_same (look_of before) w said d regions i rest p ∙ ap (λ ws. owner_among (map (layered_window (look_of before)) ws) p) (sym windows))

  -- what the window's frame shows, and what it showed
  pub frame_now : (p : Point) → own_bit (layered_desk desk_noted) (Frame w.serial) p ≡ d.picture no_news before.font (minus p w.place)
  frame_now p =
      ap (λ o. frame_bit o p) (found_put (look_of before) w.serial i v rest (free_now before w.serial i i w v rest noted_edit Stays distinct) ∙ ap (λ b. if b then Some (layered_window (look_of before) v) else layers.window_of w.serial (map (layered_window (look_of before)) rest)) (same_number w.serial))

  pub frame_was : (p : Point) → own_bit (layered_desk before) (Frame w.serial) p ≡ w.definition.picture no_news before.font (minus p w.place)
  frame_was p =
      ap (λ o. frame_bit o p)
      (ap (λ ws. layers.window_of w.serial (map (layered_window (look_of before)) ws)) windows ∙ found_put (look_of before) w.serial i w rest (free before w.serial i i w v rest noted_edit Stays distinct) ∙ ap (λ b. if b then Some (layered_window (look_of before) w) else layers.window_of w.serial (map (layered_window (look_of before)) rest)) (same_number w.serial))

  -- another window's frame shows what it showed
  pub others_same : (n : ℕ) (p : Point) → (n == w.serial) ≡ false → own_bit (layered_desk before) (Frame n) p ≡ own_bit (layered_desk desk_noted) (Frame n) p
  others_same n p away = ap (λ o. frame_bit o p) (others_found before w.serial i i w v rest noted_edit Stays distinct n (turned n w.serial away))
