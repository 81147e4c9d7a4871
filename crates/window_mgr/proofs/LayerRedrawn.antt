-- A layer of a window, drawn within a rectangle of the window on the pixels that it owns and that are not to be redrawn.
use Rattle.std.proofs.Common.{◌≡◌, ℕ, zero, suc, ◌<◌, arith, [], ◌∷◌, ◌&&◌, not, Bool, true, false, if◌then◌else◌, List, length, refl, sym, ap, ◌∙◌, subst}
use Rattle.std.specs.Prelude.{get_or}
use Rattle.std.proofs.lemmas.Bool.{false≢true, and_parts}
use Rattle.tb_geom.specs.declared.point.Point.{Point}
use Rattle.tb_geom.specs.declared.rect.Rect.{Rect}
use Rattle.tb_geom.specs.Points.{PixelSet, minus}
use Rattle.tb_geom.specs.Pixels.{holds}
use Rattle.tb_geom.specs.Rects.{rect_holds}
use Rattle.bit_map.specs.Bits.{Bits, on_map, bit}
use Rattle.bit_blit.specs.Draws.{Draws, IsWritten}
use Rattle.bit_blit.proofs.WrittenLemmas.{written_in}
use Rattle.desk_layers.specs.declared.part.Part.{Part}
use Rattle.desk_layers.specs.declared.part.Part.TheVariants as part
use Rattle.def_iface.specs.Slots.{TakenBox}
use Rattle.def_iface.specs.WindowMeaning.{WindowLoan}
use Rattle.def_iface.specs.WindowSlots.{WindowSlot}
use Rattle.desk_layers.specs.Desk as layers
use Rattle.desk_layers.specs.Desk.{LayeredDesk, same_part}
use Rattle.desk_layers.specs.Owner.{Owner, owner, same_owner, is_content}
use Rattle.desk_layers.specs.Owner.Owner.{Content}
use Rattle.desk_layers.specs.Scratch.{scratch}
use Rattle.desk_layers.specs.Change as plain
use Rattle.desk_layers.specs.Change.{Change}
use Rattle.desk_layers.proofs.Owning.{same_number, same_owner-true, same_part-self, same_part-true}
use Rattle.window_list.specs.declared.layer.Layer.{Layer}
use Rattle.window_list.specs.Holders.{ArePartsApart, part_at, belongs_to, layer_has}
use Rattle.window_list.proofs.Parts.{IsFrontApart, belongs_to-none, front_apart}
use Rattle.vis_update.specs.declared.area.Area.{Area}
use Rattle.vis_update.specs.Areas.{is_content_of, stale_in}
use Rattle.window_list.specs.declared.window.Window.{Window}
use Rattle.window_paint.specs.Shown.{part_shown}
use Rattle.window_mgr.specs.declared.manager.WindowManager.{WindowManager}
use Rattle.window_mgr.specs.DrawnWithin.{WritesPart}
use Rattle.window_mgr.specs.Edits.{IsWindowAt}
use Rattle.window_mgr.specs.FullDesk.{FullDesk, FullState, IsRightState, layered_desk, layered_state}
use Rattle.window_mgr.specs.Relayered.{IsLayerDrawnWithin, IsLayerRedrawn, redrawn_change}
use Rattle.window_mgr.specs.Records.{desk_of, desk_showing, state_of, state_showing}
use Rattle.window_mgr.specs.Whole.{IsWholeManager}
use Rattle.window_mgr.proofs.Contents as contents
use Rattle.window_mgr.proofs.EditSeats.{same_at}
use Rattle.window_mgr.proofs.Showing.{owner_showing}
use Rattle.window_mgr.proofs.Repicturing.{no_content}
use Rattle.window_mgr.proofs.Remarked.{unless}
use Rattle.window_mgr.proofs.LayerThere as here
use Rattle.window_mgr.proofs.LayerThere.{no_part}

-- the pixels that the layer owns and that are not to be redrawn
module _ {V : Type 0} {H : V → Type 0} (loan : TakenBox V H → WindowLoan) (t : WindowManager V H) (slots : List WindowSlot) (whole : IsWholeManager loan t slots) (at : ℕ) (low : at < length t.windows.records.items) (w : Window V H) (there : IsWindowAt t.windows.records.items at w) (a : Area) (read : a ≡ get_or t.areas.items at a)
    (was now : List ℕ → Part → PixelSet) (q : Part) (p : Point) (on : layers.on_screen (layered_desk (desk_showing now (desk_of loan t slots))) p ≡ true) where
  abbrev fresh_owner : Owner
  fresh_owner = owner (layered_desk (desk_showing now (desk_of loan t slots))) p

  fresh_is : ((holds a.visible p && belongs_to q w.layers.layers (minus p w.layers.place)) && not (holds a.update p)) ≡ (same_owner fresh_owner (Content w.serial q) && not (stale_in t.areas.items p))
  fresh_is = by_test (is_content_of w.serial fresh_owner) refl
    where
      by_test : (b : Bool) → is_content_of w.serial fresh_owner ≡ b
          → ((holds a.visible p && belongs_to q w.layers.layers (minus p w.layers.place)) && not (holds a.update p)) ≡ (same_owner fresh_owner (Content w.serial q) && not (stale_in t.areas.items p))
      by_test true e = λ i. here.own_is loan t slots whole at low w there a read was now q p on i && not ((here.update_is loan t slots whole at low w there a read was now q p on ∙ ap (λ b. b && stale_in t.areas.items p) e) i)
      by_test false e =
          ap (λ b. b && not (holds a.update p)) (here.own_is loan t slots whole at low w there a read was now q p on ∙ no_part w.serial q fresh_owner e)
          ∙ sym (ap (λ b. b && not (stale_in t.areas.items p)) (no_part w.serial q fresh_owner e))

module _ {V : Type 0} {H : V → Type 0} (loan : TakenBox V H → WindowLoan) (t : WindowManager V H) (slots : List WindowSlot) (whole : IsWholeManager loan t slots) (at : ℕ) (low : at < length t.windows.records.items) (w : Window V H) (there : IsWindowAt t.windows.records.items at w) (a : Area) (read : a ≡ get_or t.areas.items at a)
    (was now : List ℕ → Part → PixelSet) (q : Part) (layered : same_part q part.Picture ≡ false) (within : Rect) (screen : Bits)
    (drawn : Draws (λ p. ((holds a.visible p && belongs_to q w.layers.layers (minus p w.layers.place)) && not (holds a.update p)) && rect_holds within (minus p w.place)) (λ p _. now t.font q (minus p w.place)) t.screen screen) where
  abbrev full : FullDesk
  full = desk_of loan t slots

  abbrev before : FullState
  before = state_showing was (state_of loan t slots)

  abbrev desk : LayeredDesk
  desk = layered_desk (desk_showing now full)

  abbrev stale : PixelSet
  stale = stale_in t.areas.items

  abbrev mine : Owner → Bool
  mine o = same_owner o (Content w.serial q)

  abbrev change : Change
  change = redrawn_change w.serial q

  abbrev showing : (List ℕ → Part → PixelSet) → LayeredDesk
  showing shows = layered_desk (desk_showing shows full)

  -- what the layer shows is what painting from nothing gives, whatever layers show
  shown_of : (shows : List ℕ → Part → PixelSet) (p : Point) → layers.on_screen (showing shows) p ≡ true → mine (owner (showing shows) p) ≡ true → shows t.font q (minus p w.place) ≡ scratch (showing shows) p
  shown_of shows p on e =
      let content : is_content_of w.serial (owner (showing shows) p) ≡ true = ap (is_content_of w.serial) (same_owner-true (owner (showing shows) p) (Content w.serial q) e) ∙ same_number w.serial in
      let its_part : part_at w.layers.layers (minus p w.layers.place) ≡ q =
      same_part-true (part_at w.layers.layers (minus p w.layers.place)) q (here.mine_is loan t slots whole at low w there a read was shows q p on content ∙ e) in
      sym (ap (λ b. part_shown t.font (shows t.font) w b p) its_part ∙ by_part q layered)
      ∙ contents.content_right loan t slots whole at low w there shows p content
    where
      by_part : (b : Part) → same_part b part.Picture ≡ false → part_shown t.font (shows t.font) w b p ≡ shows t.font b (minus p w.place)
      by_part part.Picture e = absurd (false≢true (sym e))
      by_part (part.Control n) e = refl
      by_part (part.List n) e = refl
      by_part (part.Text n) e = refl

  module _ (p : Point) (on : layers.on_screen desk p ≡ true) where
    abbrev its : Owner
    its = owner desk p

    -- what is drawn
    drawn_is : ((holds a.visible p && belongs_to q w.layers.layers (minus p w.layers.place)) && not (holds a.update p)) ≡ (mine its && not (stale p))
    drawn_is = fresh_is loan t slots whole at low w there a read was now q p on

    bit_is : bit screen p ≡ (if (mine its && not (stale p)) && rect_holds within (minus p w.place) then now t.font q (minus p w.place) else bit t.screen p)
    bit_is = drawn.pixels p (here.on_screen loan t slots whole at low w there a read was now q p on) ∙ ap (λ b. if b && rect_holds within (minus p w.place) then now t.font q (minus p w.place) else bit t.screen p) drawn_is

    still : is_content_of w.serial its ≡ false → bit screen p ≡ bit t.screen p
    still e = bit_is ∙ ap (λ b. if (b && not (stale p)) && rect_holds within (minus p w.place) then now t.font q (minus p w.place) else bit t.screen p) (no_part w.serial q its e)

  -- where all was right, and the layer shows outside of the rectangle what it showed
  module _ (right : plain.IsRight (layered_state before)) (same : (p : Point) → part_at w.layers.layers (minus p w.layers.place) ≡ q → rect_holds within (minus p w.place) ≡ false → now t.font q (minus p w.place) ≡ was t.font q (minus p w.place))
      (p : Point) (on : layers.on_screen desk p ≡ true) where
    abbrev here_its : Owner
    here_its = owner desk p

    -- outside of the rectangle the screen shows it already
    kept_is : mine here_its ≡ true → stale p ≡ false → rect_holds within (minus p w.place) ≡ false → bit t.screen p ≡ scratch desk p
    kept_is e fresh outside =
        let owners : owner (showing was) p ≡ here_its = owner_showing was full p ∙ sym (owner_showing now full p) in
        let content : is_content_of w.serial here_its ≡ true = ap (is_content_of w.serial) (same_owner-true here_its (Content w.serial q) e) ∙ same_number w.serial in
        let its_part : part_at w.layers.layers (minus p w.layers.place) ≡ q =
        same_part-true (part_at w.layers.layers (minus p w.layers.place)) q (here.mine_is loan t slots whole at low w there a read was now q p on content ∙ e) in
        right.right p on fresh
        ∙ sym (shown_of was p on (ap mine owners ∙ e))
        ∙ sym (same p its_part outside)
        ∙ shown_of now p on e

    image_is : bit screen p ≡ plain.image_by change (layered_state before) desk here_its p
    image_is = by_content (is_content here_its) refl
      where
        by_test : (m old inside : Bool) → (m ≡ true → now t.font q (minus p w.place) ≡ scratch desk p) → (m ≡ true → old ≡ false → inside ≡ false → bit t.screen p ≡ scratch desk p)
            → (if (m && not old) && inside then now t.font q (minus p w.place) else bit t.screen p) ≡ (if m then (if old then bit t.screen p else scratch desk p) else bit t.screen p)
        by_test true true inside e f = refl
        by_test true false true e f = e refl
        by_test true false false e f = f refl refl refl
        by_test false old inside e f = refl

        by_content : (b : Bool) → is_content here_its ≡ b → bit screen p ≡ plain.image_by change (layered_state before) desk here_its p
        by_content false c =
            still p on (no_content w.serial here_its c)
            ∙ here.plain_bit loan t slots whole at low w there a read was now q p on c
            ∙ sym (unless (is_content here_its) (scratch desk p) _ c)
        by_content true c =
            bit_is p on
            ∙ by_test (mine here_its) (stale p) (rect_holds within (minus p w.place)) (shown_of now p on) kept_is
            ∙ sym (λ i. if not (c i) then scratch desk p else (if not (here.had_is loan t slots whole at low w there a read was now q p on i) then false else (if mine here_its then (if here.stale_by_is loan t slots whole at low w there a read was now q p on c i then bit t.screen p else scratch desk p) else bit t.screen p)))

  pub layer_drawn : IsWholeManager loan (record t { screen = screen }) slots
  layer_drawn = here.still_whole loan t slots whole at low w there a read was now q screen drawn.width drawn.height still

  pub layer_desk : desk_showing now (desk_of loan (record t { screen = screen }) slots) ≡ desk_showing now full
  layer_desk = here.same_desk loan t slots whole at low w there a read was now q screen drawn.width drawn.height still

  pub layer_redrawn : IsRightState before
      → ((p : Point) → part_at w.layers.layers (minus p w.layers.place) ≡ q → rect_holds within (minus p w.place) ≡ false → now t.font q (minus p w.place) ≡ was t.font q (minus p w.place))
      → IsLayerRedrawn w.serial q before (state_showing now (state_of loan (record t { screen = screen }) slots))
  layer_redrawn right same = record {
    desk = layer_desk;
    pixels = here.changed loan t slots whole at low w there a read was now q screen drawn.width drawn.height still change (here.stale_is loan t slots whole at low w there a read was now q) (image_is right.plain same);
  }

-- the layer whose part a pixel belongs to has the pixel, where parts are apart
holder : (ls : List Layer) (index : ℕ) (l : Layer) (p : Point) → ArePartsApart ls → index < length ls → l ≡ get_or ls index l → part_at ls p ≡ l.part → holds l.region p ≡ true
holder [] index l p apart low read e = absurd (omega arith)
holder (k ∷ ks) zero l p apart low read e = by_test (layer_has k p) refl e
  where
    front : IsFrontApart k ks
    front = front_apart k ks apart

    by_test : (b : Bool) → layer_has k p ≡ b → (if b then k.part else part_at ks p) ≡ l.part → holds l.region p ≡ true
    by_test true has e = ap (λ (x : Layer). holds x.region p) read ∙ (and_parts k.shown (holds k.region p) has).1
    by_test false has e =
        absurd (false≢true (sym (belongs_to-none k.part ks p front.picture front.others) ∙ ap (λ q. same_part q k.part) (e ∙ ap (λ (x : Layer). x.part) read) ∙ same_part-self k.part))
holder (k ∷ ks) (suc index) l p apart low read e = by_test (layer_has k p) refl (holder ks index l p front.rest (omega arith) read) e
  where
    front : IsFrontApart k ks
    front = front_apart k ks apart

    by_test : (b : Bool) → layer_has k p ≡ b → (part_at ks p ≡ l.part → holds l.region p ≡ true) → (if b then k.part else part_at ks p) ≡ l.part → holds l.region p ≡ true
    by_test false has rest e = rest e
    by_test true has rest e =
        absurd (false≢true (sym (subst (λ (x : Layer). same_part k.part x.part ≡ false) (sym read) (front.others index l (omega arith))) ∙ ap (λ q. same_part k.part q) (sym e) ∙ same_part-self k.part))

-- the layer at this index of the window was drawn so, where the window goes by another name too
pub index_redrawn : {V : Type 0} {H : V → Type 0} (loan : TakenBox V H → WindowLoan) (t : WindowManager V H) (slots : List WindowSlot) (whole : IsWholeManager loan t slots) (at : ℕ) → at < length t.windows.records.items
    → (w : Window V H) → IsWindowAt t.windows.records.items at w → (a : Area) → a ≡ get_or t.areas.items at a → (was now : List ℕ → Part → PixelSet)
    → (index : ℕ) → index < length w.layers.layers → (l : Layer) → l ≡ get_or w.layers.layers index l → (v : Window V H) → IsWindowAt t.windows.records.items at v → (within : Rect) (screen : Bits)
    → ((k : Layer) → k ≡ get_or v.layers.layers index k → Draws (λ p. ((holds a.visible p && belongs_to k.part v.layers.layers (minus p v.layers.place)) && not (holds a.update p)) && rect_holds within (minus p v.place)) (λ p _. now t.font k.part (minus p v.place)) t.screen screen)
    → IsWholeManager loan (record t { screen = screen }) slots × IsLayerDrawnWithin within w.serial l (state_showing was (state_of loan t slots)) (state_showing now (state_of loan (record t { screen = screen }) slots))
index_redrawn {V} {H} loan t slots whole at low w there a read was now index there_too l l_read v v_read within screen drawn = (
  layer_drawn loan t slots whole at low w there a read was now l.part layered within screen drawn_so,
  record {
    desk = layer_desk loan t slots whole at low w there a read was now l.part layered within screen drawn_so;
    redrawn = λ right same. layer_redrawn loan t slots whole at low w there a read was now l.part layered within screen drawn_so right
        (λ p its outside.
        let place : w.layers.place ≡ w.place = contents.layers_there loan t slots whole at low w there now in
        same (minus p w.place) (holder w.layers.layers index l (minus p w.place) apart there_too l_read (ap (λ o. part_at w.layers.layers (minus p o)) (sym place) ∙ its)) outside);
  },
)
  where
    apart : ArePartsApart w.layers.layers
    apart = contents.layers_apart loan t slots whole at low w there now

    layered : same_part l.part part.Picture ≡ false
    layered = subst (λ (k : Layer). same_part k.part part.Picture ≡ false) (sym l_read) (apart.0 index l there_too)

    drawn_so : Draws (λ p. ((holds a.visible p && belongs_to l.part w.layers.layers (minus p w.layers.place)) && not (holds a.update p)) && rect_holds within (minus p w.place)) (λ p _. now t.font l.part (minus p w.place)) t.screen screen
    drawn_so = (subst (λ (z : Window V H). (k : Layer) → k ≡ get_or z.layers.layers index k → Draws (λ p. ((holds a.visible p && belongs_to k.part z.layers.layers (minus p z.layers.place)) && not (holds a.update p)) && rect_holds within (minus p z.place)) (λ p _. now t.font k.part (minus p z.place)) t.screen screen)
        (same_at t.windows.records.items at v w low v_read there) drawn) l l_read

-- and no other pixel was written
pub index_written : {V : Type 0} {H : V → Type 0} (loan : TakenBox V H → WindowLoan) (t : WindowManager V H) (slots : List WindowSlot) (whole : IsWholeManager loan t slots) (at : ℕ) → at < length t.windows.records.items
    → (w : Window V H) → IsWindowAt t.windows.records.items at w → (a : Area) → a ≡ get_or t.areas.items at a → (now : List ℕ → Part → PixelSet)
    → (index : ℕ) (l : Layer) → l ≡ get_or w.layers.layers index l → (v : Window V H) → IsWindowAt t.windows.records.items at v → (within : Rect) (screen : Bits)
    → ((k : Layer) → k ≡ get_or v.layers.layers index k → IsWritten (λ p. ((holds a.visible p && belongs_to k.part v.layers.layers (minus p v.layers.place)) && not (holds a.update p)) && rect_holds within (minus p v.place)) t.screen screen)
    → WritesPart loan w.serial l.part w.place (rect_holds within) t (record t { screen = screen })
index_written {V} {H} loan t slots whole at low w there a read now index l l_read v v_read within screen written =
    written_in _ _ t.screen screen (λ p on out. (λ i. fresh p on i && rect_holds within (minus p w.place)) ∙ out) written_so
  where
    fresh : (p : Point) → on_map t.screen p ≡ true
        → ((holds a.visible p && belongs_to l.part w.layers.layers (minus p w.layers.place)) && not (holds a.update p))
        ≡ (same_owner (owner (layered_desk (desk_of loan t slots)) p) (Content w.serial l.part) && not (stale_in t.areas.items p))
    fresh p on =
        fresh_is loan t slots whole at low w there a read now now l.part p (here.on_map_is loan t slots whole at low w there a read now now l.part p ∙ on)
        ∙ ap (λ o. same_owner o (Content w.serial l.part) && not (stale_in t.areas.items p)) (owner_showing now (desk_of loan t slots) p)

    written_so : IsWritten (λ p. ((holds a.visible p && belongs_to l.part w.layers.layers (minus p w.layers.place)) && not (holds a.update p)) && rect_holds within (minus p w.place)) t.screen screen
    written_so = (subst (λ (z : Window V H). (k : Layer) → k ≡ get_or z.layers.layers index k → IsWritten (λ p. ((holds a.visible p && belongs_to k.part z.layers.layers (minus p z.layers.place)) && not (holds a.update p)) && rect_holds within (minus p z.place)) t.screen screen)
        (same_at t.windows.records.items at v w low v_read there) written) l l_read
