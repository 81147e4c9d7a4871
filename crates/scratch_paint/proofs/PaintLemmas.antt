-- Windows painted over each other, and over the ground.
use Rattle.std.proofs.Common.{◌≡◌, ℕ, ◌+◌, ◌<◌, ◌≤◌, Bool, true, false, not, ◌&&◌, if◌then◌else◌, List, [], ◌∷◌, ◌++◌, length, get_or, drop, fold, map, Some, ℤ, pos, ◌≤ℤ◌, refl, sym, subst, ap, ◌∙◌, arith}
use Rattle.std.specs.Prelude.{int_le, int_lt}
use Rattle.std.proofs.lemmas.Bool.{and_parts, false≢true}
use Rattle.std.proofs.lemmas.Grind.{fold-append}
use Rattle.std.proofs.lemmas.List.{drop_all, drop_more}
use Rattle.std.proofs.lemmas.Int.{ints}
use Rattle.tb_geom.specs.declared.point.Point.{Point}
use Rattle.tb_geom.specs.Points.{PixelSet, minus}
use Rattle.tb_geom.specs.Rects.{between}
use Rattle.tb_geom.specs.Pixels.{Pixels, holds}
use Rattle.bit_map.specs.Bits.{Bits, on_map, bit}
use Rattle.bit_map.specs.Patterns.{pattern_bit}
use Rattle.region_bytes.proofs.Scanned.{from_le}
use Rattle.scan_region.specs.Moves.{StaysInRange}
use Rattle.bit_blit.specs.Draws.{Draws}
use Rattle.bit_blit.proofs.DrawsLemmas.{Draws-on_map, Draws-over}
use Rattle.draw_port.specs.Ops.{picture_bit}
use Rattle.desk_ground.specs.declared.ground.Ground.{Ground}
use Rattle.desk_ground.specs.Screens.{is_screen, is_screen_side, is_bar, desktop}
use Rattle.desk_ground.specs.Grounds.{IsGround}
use Rattle.def_iface.specs.WindowNews.{no_news}
use Rattle.desk_layers.specs.declared.part.Part.{Part}
use Rattle.def_iface.specs.Slots.{TakenBox}
use Rattle.def_iface.specs.declared.window_def.WindowRegions.{WindowRegions}
use Rattle.def_iface.specs.WindowMeaning.{IsWithin, WindowLoan}
use Rattle.desk_layers.specs.Desk.{ContentLayer, LayeredWindow, in_structure, local, on_screen}
use Rattle.desk_layers.specs.Scratch.{painted, content_layers, window_layers, layers_of, scratch}
use Rattle.desk_layers.specs.Scratch as painting
use Rattle.window_list.specs.declared.layer.Layer.{Layer}
use Rattle.window_list.specs.Holders.{layer_has}
use Rattle.window_list.specs.declared.list.WindowList.{WindowList}
use Rattle.window_list.specs.declared.window.Window.{Window}
use Rattle.vis_update.specs.Places.{IsRegionsAt, is_placed}
use Rattle.vis_update.specs.Records.{WindowRecord, Look, content_layer, layered_window, picture_layer, record_of}
use Rattle.vis_update.proofs.PlaceLemmas.{placed_from, stays_with_box}
use Rattle.window_mgr.specs.declared.manager.WindowManager.{WindowManager}
use Rattle.window_mgr.specs.FullDesk.{FullDesk, layered_desk, look_of}
use Rattle.window_mgr.specs.Records.{desk_of, desk_showing}
use Rattle.window_mgr.specs.Whole.{IsSettled}
use Rattle.window_mgr.proofs.Arranged.{between-is_below}
use Rattle.window_mgr.proofs.EmptyLemmas.{below_rows, no_row}
use Rattle.desk_ground.specs.declared.titles.BarTitle.{BarTitle}
use Rattle.desk_ground.specs.Bars.{bar_picture}
use Rattle.scratch_paint.specs.Paints.{IsPaintedDesk, layers_value, look_in, window_value, windows_value}

-- a settled window may be where it is
pub is_placed_there : (w : WindowRecord) → IsSettled w → is_placed (Some w.definition) w.place w.size ≡ true
is_placed_there w s = placed_from w.definition w.place w.size s.placed s.fits s.inside

-- and its content stays in range there
pub content_stays : (w : WindowRecord) (content : Pixels) → IsSettled w
    → ((p : Point) → holds content p ≡ w.definition.content w.size p) → StaysInRange content w.place
content_stays w content s is = stays_with_box content (w.definition.bounds w.size) w.place (λ p e. s.within p (sym (is p) ∙ e)) s.inside

-- ---- one drawing over another, both in the gray region

gated : (b : Bool) (first second both : Bool → Bool) (d : Bool) → both d ≡ second (first d) → (if b then second (if b then first d else d) else (if b then first d else d)) ≡ (if b then both d else d)
gated true first second both d e = sym e
gated false first second both d e = refl

-- ---- the picture of one window over its frame

-- a window without controls and lists
abbrev bare : WindowRecord → WindowRecord
bare w = record w { layers = [] }

-- what two drawings in the gray region make of a value, the second of pixels that the first has too
over : (b s c f x d : Bool) → (c ≡ true → s ≡ true) → (if b && c then x else (if b && s then f else d)) ≡ (if b then (if s && c then x else (if s then f else d)) else d)
over false s c f x d within = refl
over true true c f x d within = refl
over true false false f x d within = refl
over true false true f x d within = absurd (false≢true (within refl))

-- a frame was painted, and the picture over it
picture_painted : (look : Look) (w : WindowRecord) (region : Pixels) (r : WindowRegions) (old mid new : Bits)
    → w.shown ≡ true
    → IsRegionsAt w.place w.size w.definition r
    → Draws (λ p. holds region p && holds r.structure p) (λ p _. w.definition.picture no_news look.font (minus p w.place)) old mid
    → Draws (λ p. holds region p && holds r.content p) (λ p _. picture_bit look.font w.picture (minus (minus p w.place) w.origin)) mid new
    → Draws (holds region) (window_value look (bare w)) old new
picture_painted look w region r old mid new shown at framed filled =
    Draws-over _ _ (holds region) _ _ (window_value look (bare w)) old mid new (λ p d on. one p d) framed filled
  where
    one : (p : Point) (d : Bool) → (if holds region p && holds r.content p then picture_bit look.font w.picture (minus (minus p w.place) w.origin) else (if holds region p && holds r.structure p then w.definition.picture no_news look.font (minus p w.place) else d)) ≡ (if holds region p then window_value look (bare w) p d else d)
    one p d =
        let f = w.definition.picture no_news look.font (minus p w.place) in
        let x = picture_bit look.font w.picture (minus (minus p w.place) w.origin) in
        let s = w.definition.structure w.size (minus p w.place) in
        let c = w.definition.content w.size (minus p w.place) in
        (λ i. if holds region p && at.content p i then x else (if holds region p && at.structure p i then f else d))
        ∙ over (holds region p) s c f x d (at.within (minus p w.place))
        ∙ (λ i. if holds region p then (if (sym shown i && s) && c then x else (if sym shown i && s then f else d)) else d)

-- ---- its controls and lists over that

-- the rearmost of content layers is painted first
rearmost_first : (w : LayeredWindow) (ls : List ContentLayer) (l : ContentLayer) → content_layers w (ls ++ l ∷ []) ≡ content_layers w (l ∷ []) ++ content_layers w ls
rearmost_first w [] l = refl
rearmost_first w (k ∷ ls) l = ap (λ (behind : List painting.Layer). behind ++ record { extent = λ p. in_structure w p && k.extent (local w p); picture = λ p. k.picture (local w p) } ∷ []) (rearmost_first w ls l)

-- painting a window is painting its controls and lists over its frame and its picture
layers_over : (look : Look) (w : WindowRecord) (p : Point) (d : Bool) → window_value look w p d ≡ layers_value look w w.layers p (window_value look (bare w) p d)
layers_over look w p d =
    let content = w.definition.content w.size in
    ap (fold (painted p) (if in_structure (layered_window look w) p then w.definition.picture no_news look.font (minus p w.place) else d))
    (rearmost_first (layered_window look w) (map (content_layer look content) w.layers) (picture_layer look w))

-- the frame of a window was painted, the picture over it, and the controls and lists over both
pub window_painted : (look : Look) (w : WindowRecord) (region : Pixels) (r : WindowRegions) (old mid behind new : Bits)
    → w.shown ≡ true
    → IsRegionsAt w.place w.size w.definition r
    → Draws (λ p. holds region p && holds r.structure p) (λ p _. w.definition.picture no_news look.font (minus p w.place)) old mid
    → Draws (λ p. holds region p && holds r.content p) (λ p _. picture_bit look.font w.picture (minus (minus p w.place) w.origin)) mid behind
    → Draws (holds region) (layers_value look w w.layers) behind new
    → Draws (holds region) (window_value look w) old new
window_painted look w region r old mid behind new shown at framed filled layered =
    Draws-over _ _ (holds region) _ _ (window_value look w) old behind new
    (λ p d on. gated (holds region p) (window_value look (bare w) p) (layers_value look w w.layers p) (window_value look w p) d (layers_over look w p d))
    (picture_painted look w region r old mid behind shown at framed filled) layered

-- ---- a hidden window

no_content : (w : LayeredWindow) (ls : List ContentLayer) (p : Point) (d : Bool) → w.shown ≡ false → fold (painted p) d (content_layers w ls) ≡ d
no_content w [] p d hidden = refl
no_content w (l ∷ ls) p d hidden =
    fold-append (painted p) d (content_layers w ls) _
    ∙ (λ i. if (hidden i && w.structure (local w p)) && l.extent (local w p) then l.picture (local w p) else fold (painted p) d (content_layers w ls))
    ∙ no_content w ls p d hidden

-- painting it paints nothing
pub hidden_painted : (look : Look) (w : WindowRecord) (region : Pixels) (image : Bits) → w.shown ≡ false → Draws (holds region) (window_value look w) image image
hidden_painted look w region image hidden = record { pixels = λ p on. none p (bit image p); width = refl; height = refl }
  where
    same : (b d : Bool) → d ≡ (if b then d else d)
    same true d = refl
    same false d = refl

    unframed : (p : Point) (d : Bool) → (if in_structure (layered_window look w) p then w.definition.picture no_news look.font (minus p w.place) else d) ≡ d
    unframed p d = λ i. if hidden i && w.definition.structure w.size (minus p w.place) then w.definition.picture no_news look.font (minus p w.place) else d

    none : (p : Point) (d : Bool) → d ≡ (if holds region p then window_value look w p d else d)
    none p d = same (holds region p) d
        ∙ ap (λ y. if holds region p then y else d) (sym (no_content (layered_window look w) (layered_window look w).layers p (if in_structure (layered_window look w) p then w.definition.picture no_news look.font (minus p w.place) else d) hidden ∙ unframed p d))

-- ---- what a layer takes

-- of the content on the screen
pub layer_takes : (w : WindowRecord) (l : Layer) (content its : Pixels) → ((p : Point) → holds content p ≡ w.definition.content w.size p)
    → ((p : Point) → holds its p ≡ (holds content (minus p w.place) && layer_has l (minus p w.place)))
    → (p : Point) → holds its p ≡ (w.definition.content w.size (minus p w.place) && layer_has l (minus p w.place))
layer_takes w l content its is takes p = takes p ∙ ap (λ b. b && layer_has l (minus p w.place)) (is (minus p w.place))

-- ---- controls and lists, the rearmost first

module _ (look : Look) (region : Pixels) (w : WindowRecord) where
  -- those from this place of the list on were painted
  abbrev pub AreLayersFrom : ℕ → Bits → Bits → Type 0
  AreLayersFrom i old new = Draws (holds region) (layers_value look w (drop i w.layers)) old new

  -- what a drawing makes of a value where a window's layer is, over one in the gray region
  layer_over : (b s c h x v d : Bool) → (c ≡ true → s ≡ true) → (if b && (c && h) then x else (if b then v else d)) ≡ (if b then (if s && (c && h) then x else v) else d)
  layer_over false s c h x v d within = refl
  layer_over true true c h x v d within = refl
  layer_over true false false h x v d within = refl
  layer_over true false true h x v d within = absurd (false≢true (within refl))

  -- one more, in front of them
  pub one_layer_more : (i : ℕ) (l : Layer) (its : Pixels) (old mid new : Bits) → i < length w.layers → l ≡ get_or w.layers i l
      → w.shown ≡ true
      → IsWithin (w.definition.content w.size) (w.definition.structure w.size)
      → ((p : Point) → holds its p ≡ (w.definition.content w.size (minus p w.place) && layer_has l (minus p w.place)))
      → AreLayersFrom (i + 1) old mid
      → Draws (λ p. holds region p && holds its p) (λ p _. look.shows l.part (minus p w.place)) mid new
      → AreLayersFrom i old new
  one_layer_more i l its old mid new low read shown within takes so one =
      Draws-over _ _ (holds region) _ _ (layers_value look w (drop i w.layers)) old mid new (λ p d on. each p d) so one
    where
      rest : List Layer
      rest = drop (i + 1) w.layers

      split : drop i w.layers ≡ l ∷ rest
      split = drop_more w.layers i l low ∙ ap (λ k. k ∷ rest) (sym read)

      content : PixelSet
      content = w.definition.content w.size

      more : (p : Point) (d : Bool) → layers_value look w (drop i w.layers) p d ≡ (if in_structure (layered_window look w) p && (content (minus p w.place) && layer_has l (minus p w.place)) then look.shows l.part (minus p w.place) else layers_value look w rest p d)
      more p d =
          ap (λ ls. layers_value look w ls p d) split
          ∙ fold-append (painted p) d (content_layers (layered_window look w) (map (content_layer look content) rest)) _

      each : (p : Point) (d : Bool) → (if holds region p && holds its p then look.shows l.part (minus p w.place) else (if holds region p then layers_value look w rest p d else d)) ≡ (if holds region p then layers_value look w (drop i w.layers) p d else d)
      each p d =
          let s = w.definition.structure w.size (minus p w.place) in
          let c = content (minus p w.place) in
          let h = layer_has l (minus p w.place) in
          let x = look.shows l.part (minus p w.place) in
          let v = layers_value look w rest p d in
          (λ i. if holds region p && takes p i then x else (if holds region p then v else d))
          ∙ layer_over (holds region p) s c h x v d (within (minus p w.place))
          ∙ (λ i. if holds region p then (if (sym shown i && s) && (c && h) then x else v) else d)
          ∙ ap (λ y. if holds region p then y else d) (sym (more p d))

  -- before the first was painted
  pub no_layer : (i : ℕ) (image : Bits) → i ≡ length w.layers → AreLayersFrom i image image
  no_layer i image end = record { pixels = λ p on. none p (bit image p); width = refl; height = refl }
    where
      same : (b d : Bool) → d ≡ (if b then d else d)
      same true d = refl
      same false d = refl

      none : (p : Point) (d : Bool) → d ≡ (if holds region p then layers_value look w (drop i w.layers) p d else d)
      none p d = same (holds region p) d ∙ ap (λ ls. if holds region p then layers_value look w ls p d else d) (sym (drop_all i w.layers (omega arith)))

-- ---- windows, the rearmost first

module _ {V : Type 0} {H : V → Type 0} (loan : TakenBox V H → WindowLoan) (look : Look) (region : Pixels) (ws : List (Window V H)) where
  -- the windows from this place of the list on were painted
  abbrev pub ArePaintedFrom : ℕ → Bits → Bits → Type 0
  ArePaintedFrom i old new = Draws (holds region) (windows_value look (map (record_of loan) (drop i ws))) old new

  -- one window more, in front of them
  pub one_more : (i : ℕ) (x : Window V H) (old mid new : Bits) → i < length ws → x ≡ get_or ws i x → ArePaintedFrom (i + 1) old mid → Draws (holds region) (window_value look (record_of loan x)) mid new → ArePaintedFrom i old new
  one_more i x old mid new low read so one =
      let rest = map (record_of loan) (drop (i + 1) ws) in
      let split : drop i ws ≡ x ∷ drop (i + 1) ws = drop_more ws i x low ∙ ap (λ y. y ∷ drop (i + 1) ws) (sym read) in
      Draws-over _ _ (holds region) _ _ (windows_value look (map (record_of loan) (drop i ws))) old mid new
      (λ p d on. gated (holds region p) (windows_value look rest p) (window_value look (record_of loan x) p) (windows_value look (map (record_of loan) (drop i ws)) p) d (
      ap (λ (l : List (Window V H)). windows_value look (map (record_of loan) l) p d) split
      ∙ fold-append (painted p) d (layers_of (map (layered_window look) rest)) (window_layers (layered_window look (record_of loan x)))))
      so one

-- ---- over the ground

-- painting from nothing is painting the windows over the desktop, and the menu bar over them
scratch_is : (desk : FullDesk) (p : Point)
    → scratch (layered_desk desk) p ≡ (if int_lt p.v desk.bar.rows then bar_picture desk.font desk.bar.titles p else windows_value (look_of desk) desk.windows p (pattern_bit desktop p))
scratch_is desk p = fold-append (painted p) (pattern_bit desktop p) (layers_of (map (layered_window (look_of desk)) desk.windows)) _

-- the desk's pixels are those of the ground
on_ground : (desk : FullDesk) (g : Ground) → IsGround desk.width desk.height desk.bar.rows g → (p : Point) → on_screen (layered_desk desk) p ≡ on_map g.screen p
unfolding on_map
on_ground desk g ground p =
    (λ i. between (pos 0) p.h (sym ground.wide i) && between (pos 0) p.v (sym ground.high i))
    ∙ (λ i. between-is_below g.screen.width p.h i && between-is_below g.screen.height p.v i)

-- a screen's bar is a menu bar's
is_bar_of : (width height bar : ℤ) → is_screen width height bar ≡ true → is_bar bar ≡ true
is_bar_of width height bar e = (and_parts (is_bar bar) _ (and_parts (is_screen_side height) _ (and_parts (is_screen_side width) _ e).1).1).0

-- on a desk without windows all windows were painted where it is gray, and then the menu bar
pub desk_painted : (desk : FullDesk) (g : Ground) (mid new : Bits) → is_bar desk.bar.rows ≡ true → IsGround desk.width desk.height desk.bar.rows g
    → Draws (holds g.gray) (windows_value (look_of desk) desk.windows) g.screen mid
    → Draws (λ p. int_lt p.v desk.bar.rows) (λ p _. bar_picture desk.font desk.bar.titles p) mid new
    → IsPaintedDesk desk new
desk_painted desk g mid new bar_is ground drawn topped = record {
  wide = ap pos (topped.width ∙ drawn.width) ∙ ground.wide;
  high = ap pos (topped.height ∙ drawn.height) ∙ ground.high;
  pixels = λ p on. all p on;
}
  where
    is_gray : (p : Point) → on_screen (layered_desk desk) p ≡ true → holds g.gray p ≡ not (int_lt p.v desk.bar.rows)
    is_gray p on =
        let sides = and_parts (between (pos 0) p.h desk.width) _ on in
        ground.gray p ∙ (λ i. sides.0 i && below_rows desk.bar.rows p.v desk.height bar_is i) ∙ (λ i. sides.1 i && not (int_lt p.v desk.bar.rows))

    all : (p : Point) → on_screen (layered_desk desk) p ≡ true → bit new p ≡ scratch (layered_desk desk) p
    all p on =
        let there : on_map g.screen p ≡ true = sym (on_ground desk g ground p) ∙ on in
        topped.pixels p (Draws-on_map _ _ g.screen mid drawn p ∙ there) ∙ by_bar there (int_lt p.v desk.bar.rows) refl ∙ sym (scratch_is desk p)
      where
        over_bar : Bool → Bool → Bool
        over_bar b below = if b then bar_picture desk.font desk.bar.titles p else below

        by_bar : on_map g.screen p ≡ true → (b : Bool) → int_lt p.v desk.bar.rows ≡ b
            → over_bar (int_lt p.v desk.bar.rows) (bit mid p) ≡ over_bar (int_lt p.v desk.bar.rows) (windows_value (look_of desk) desk.windows p (pattern_bit desktop p))
        by_bar there true e = ap (λ b. over_bar b (bit mid p)) e ∙ sym (ap (λ b. over_bar b (windows_value (look_of desk) desk.windows p (pattern_bit desktop p))) e)
        by_bar there false e =
            let h : holds g.gray p ≡ true = is_gray p on ∙ ap not e in
            let under : bit g.screen p ≡ pattern_bit desktop p = ground.pixels p there
            ∙ (λ i. if no_row desk.bar.rows p.v e i then true else (if h i then pattern_bit desktop p else false)) in
            let held : bit mid p ≡ windows_value (look_of desk) desk.windows p (pattern_bit desktop p) = drawn.pixels p there
            ∙ (λ i. if h i then windows_value (look_of desk) desk.windows p (under i) else under i) in
            ap (over_bar (int_lt p.v desk.bar.rows)) held

-- and that is the desk of a manager, where its parts were asked of what is the same
pub kept_painted : {V : Type 0} {H : V → Type 0} (loan : TakenBox V H → WindowLoan) (shows : List ℕ → Part → PixelSet) (t : WindowManager V H) (width height bar : ℤ) (font : List ℕ) (titles : List BarTitle) (windows : WindowList V H) (g : Ground) (mid new : Bits)
    → width ≡ pos t.screen.width → height ≡ pos t.screen.height → bar ≡ t.bar.rows → titles ≡ t.bar.titles → font ≡ t.font → windows ≡ t.windows
    → is_screen (pos t.screen.width) (pos t.screen.height) t.bar.rows ≡ true
    → IsGround width height bar g
    → Draws (holds g.gray) (windows_value (look_in shows font) (map (record_of loan) windows.records.items)) g.screen mid
    → Draws (λ p. int_lt p.v bar) (λ p _. bar_picture font titles p) mid new
    → IsPaintedDesk (desk_showing shows (desk_of loan t [])) new
kept_painted {V} {H} loan shows t width height bar font titles windows g mid new wide high rows texts letters list sides ground drawn topped =
    desk_painted (desk_showing shows (desk_of loan t [])) g mid new
    (is_bar_of (pos t.screen.width) (pos t.screen.height) t.bar.rows sides)
    (subst (λ (x : ℤ × (ℤ × ℤ)). IsGround x.0 x.1.0 x.1.1 g) (λ i. (wide i, (high i, rows i))) ground)
    (subst (λ (x : List ℕ × WindowList V H). Draws (holds g.gray) (windows_value (look_in shows x.0) (map (record_of loan) x.1.records.items)) g.screen mid) (λ i. (letters i, list i)) drawn)
    (subst (λ (x : ℤ × (List ℕ × List BarTitle)). Draws (λ p. int_lt p.v x.0) (λ p _. bar_picture x.1.0 x.1.1 p) mid new) (λ i. (rows i, (letters i, texts i))) topped)

-- a map as wide as a screen has at most 1024 columns
pub few_columns : (width height bar : ℤ) (wide drawn : ℕ) → is_screen width height bar ≡ true → pos wide ≡ width → drawn ≡ wide → drawn ≤ 1024
few_columns width height bar wide drawn e is same =
    let side = (and_parts (is_screen_side width) _ e).0 in
    let most : width ≤ℤ pos 1024 = from_le width (pos 1024) (and_parts (int_le (pos 8) width) (int_le width (pos 1024)) side).1 in
    omega (arith, ints)
