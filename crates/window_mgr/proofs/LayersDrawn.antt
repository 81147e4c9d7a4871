-- A window manager of which one window got other layers, as it was planned, and drew them.
use Rattle.std.proofs.Common.{◌≡◌, ℕ, ◌<◌, ◌==◌, ◌&&◌, not, Bool, true, false, if◌then◌else◌, List, length, Option, None, Some, refl, sym, ap, ◌∙◌}
use Rattle.std.specs.Prelude.{get_or}
use Rattle.std.proofs.lemmas.Bool.{false≢true, and_parts}
use Rattle.tb_geom.specs.declared.point.Point.{Point}
use Rattle.tb_geom.specs.Points.{PixelSet, minus}
use Rattle.tb_geom.specs.Pixels.{holds}
use Rattle.bit_map.specs.Bits.{Bits, on_map, bit}
use Rattle.bit_blit.specs.Draws.{Draws}
use Rattle.bit_blit.proofs.DrawsLemmas.{Draws-on_map}
use Rattle.desk_layers.specs.declared.part.Part.{Part}
use Rattle.desk_layers.specs.declared.part.Part.TheVariants.{Picture}
use Rattle.def_iface.specs.Slots.{TakenBox}
use Rattle.def_iface.specs.WindowMeaning.{WindowLoan}
use Rattle.def_iface.specs.WindowSlots.{WindowSlot}
use Rattle.desk_layers.specs.Desk as layers
use Rattle.desk_layers.specs.Desk.{LayeredDesk}
use Rattle.desk_layers.specs.Owner.{Owner, owner, own_bit, same_owner, is_content}
use Rattle.desk_layers.specs.Owner.Owner.{Content}
use Rattle.desk_layers.specs.Scratch.{scratch}
use Rattle.desk_layers.specs.Change as plain
use Rattle.desk_layers.proofs.Owning.{same_number, same_owner-true, same_owner-self, same_part-true}
use Rattle.desk_layers.proofs.Painting.{scratch_is_owners}
use Rattle.window_list.specs.Holders.{PlacedLayers, part_at, belongs_to}
use Rattle.vis_update.specs.declared.area.Area.{Area}
use Rattle.vis_update.specs.declared.relaying.Relaying.{Relaying}
use Rattle.vis_update.specs.Areas.{is_content_of}
use Rattle.vis_update.specs.Relayings.{IsRelaid, is_part_afresh}
use Rattle.vis_update.proofs.Relayed.{afresh_is_content}
use Rattle.window_list.specs.declared.window.Window.{Window}
use Rattle.window_mgr.specs.declared.manager.WindowManager.{WindowManager}
use Rattle.window_mgr.specs.Edits.{IsWindowAt}
use Rattle.window_mgr.specs.FullDesk.{FullDesk, layered_desk, layered_state}
use Rattle.window_mgr.specs.Records.{desk_of, desk_showing, state_of, state_showing}
use Rattle.window_mgr.specs.Relayered.{MayHaveLayers, IsPlanOfLayers}
use Rattle.window_mgr.specs.Whole.{IsWholeManager}
use Rattle.window_mgr.proofs.Arranged.{between-is_below}
use Rattle.window_mgr.proofs.LayersPut as put
use Rattle.window_mgr.proofs.Remarked.{unless}
use Rattle.window_mgr.proofs.Repicturing.{no_content}
use Rattle.window_mgr.proofs.Showing.{owner_showing}

-- ---- drawing

-- of these layers at a place, the part that is to be drawn afresh, if one is, was drawn on the pixels that it owns: no
-- picture, and it shows this in a window at another place
abbrev pub IsDrawnAfresh : Option Part → PlacedLayers → Point → Relaying → (Part → PixelSet) → Bits → Bits → Type 0
IsDrawnAfresh None placed place r shows mid end = end ≡ mid
IsDrawnAfresh (Some q) placed place r shows mid end =
    Draws (λ p. holds r.draw p && belongs_to q placed.layers (minus p placed.place)) (λ p _. shows q (minus p place)) mid end
    × (layers.same_part q Picture ≡ false)

-- the sides are the same
pub same_sides : (part : Option Part) (placed : PlacedLayers) (place : Point) (r : Relaying) (shows : Part → PixelSet) (old mid end : Bits) → Draws (holds r.erase) (λ p _. false) old mid → IsDrawnAfresh part placed place r shows mid end
    → (end.width ≡ old.width) × (end.height ≡ old.height)
same_sides None placed place r shows old mid end white drawn = (ap (λ b. b.width) drawn ∙ white.width, ap (λ b. b.height) drawn ∙ white.height)
same_sides (Some q) placed place r shows old mid end white drawn = (drawn.0.width ∙ white.width, drawn.0.height ∙ white.height)

-- a pixel after the drawing, where the part that is drawn afresh owns it or not, and is to show this there
pixel_by : (part : Option Part) (placed : PlacedLayers) (place : Point) (r : Relaying) (shows : Part → PixelSet) (old mid end : Bits) (p : Point) (n : ℕ) (o : Owner) (value : Bool) → on_map old p ≡ true → holds r.draw p ≡ is_part_afresh n part o
    → ((q : Part) → is_part_afresh n (Some q) o ≡ true → layers.same_part q Picture ≡ false → (belongs_to q placed.layers (minus p placed.place) ≡ true) × (shows q (minus p place) ≡ value))
    → Draws (holds r.erase) (λ p _. false) old mid → IsDrawnAfresh part placed place r shows mid end
    → bit end p ≡ (if is_part_afresh n part o then value else (if holds r.erase p then false else bit old p))
pixel_by None placed place r shows old mid end p n o value on draws its white drawn = ap (λ b. bit b p) drawn ∙ white.pixels p on
pixel_by (Some q) placed place r shows old mid end p n o value on draws its white drawn = by_test (is_part_afresh n (Some q) o) refl
  where
    first : bit end p ≡ (if holds r.draw p && belongs_to q placed.layers (minus p placed.place) then shows q (minus p place) else bit mid p)
    first = drawn.0.pixels p (Draws-on_map (holds r.erase) (λ p _. false) old mid white p ∙ on)

    by_test : (b : Bool) → is_part_afresh n (Some q) o ≡ b → bit end p ≡ (if is_part_afresh n (Some q) o then value else (if holds r.erase p then false else bit old p))
    by_test true e =
        let shown = its q e drawn.1 in
        first
        ∙ (λ i. if (draws ∙ e) i && shown.0 i then shows q (minus p place) else bit mid p)
        ∙ shown.1
        ∙ sym (ap (λ b. if b then value else (if holds r.erase p then false else bit old p)) e)
    by_test false e =
        first
        ∙ (λ i. if (draws ∙ e) i && belongs_to q placed.layers (minus p placed.place) then shows q (minus p place) else bit mid p)
        ∙ white.pixels p on
        ∙ sym (ap (λ b. if b then value else (if holds r.erase p then false else bit old p)) e)

module _ {V : Type 0} {H : V → Type 0} (loan : TakenBox V H → WindowLoan) (t : WindowManager V H) (slots : List WindowSlot) (whole : IsWholeManager loan t slots) (at : ℕ) (low : at < length t.windows.records.items) (w : Window V H) (there : IsWindowAt t.windows.records.items at w) (a : Area) (read : a ≡ get_or t.areas.items at a)
    (placed : PlacedLayers) (may : MayHaveLayers at t placed) (part : Option Part) (r : Relaying) (plan : IsPlanOfLayers loan at placed.layers part t r) where
  abbrev before : FullDesk
  before = desk_of loan t slots

  abbrev now : (Part → PixelSet) → LayeredDesk
  now shows = put.now loan t slots whole at low w there a read placed may part r plan shows

  on_map_is : (p : Point) → layers.on_screen (layered_desk before) p ≡ on_map t.screen p
  unfolding on_map
  on_map_is p = λ i. between-is_below t.screen.width p.h i && between-is_below t.screen.height p.v i

  module _ (shows : Part → PixelSet) (p : Point) (on : layers.on_screen (now shows) p ≡ true) where
    abbrev its : Owner
    its = owner (now shows) p

    abbrev is_afresh : Bool
    is_afresh = is_part_afresh w.serial part its

    abbrev had : Bool
    had = layers.on_screen (layered_desk before) p && same_owner (owner (layered_desk before) p) its

    relaid : IsRelaid w.serial part (layered_state (state_of loan t slots)) (now shows) r
    relaid = put.is_relaid loan t slots whole at low w there a read placed may part r plan shows

    erase_is : holds r.erase p ≡ (is_content_of w.serial its && (not is_afresh && not had))
    erase_is = relaid.erase p ∙ ap (λ b. (b && is_content_of w.serial its) && (not is_afresh && not had)) on

    draw_is : holds r.draw p ≡ is_afresh
    draw_is = relaid.draw p ∙ ap (λ b. b && is_afresh) on

    on_before : on_map t.screen p ≡ true
    on_before = sym (on_map_is p) ∙ on

    -- a part that is drawn afresh owns the pixel, and is to show there what it shows
    its_value : (q : Part) → is_part_afresh w.serial (Some q) its ≡ true → layers.same_part q Picture ≡ false → (belongs_to q placed.layers (minus p placed.place) ≡ true) × (shows q (minus p w.place) ≡ scratch (now shows) p)
    its_value q e no_picture =
        let own : is_content_of w.serial its ≡ true = ap (is_content_of w.serial) (same_owner-true its (Content w.serial q) e) ∙ same_number w.serial in
        let is = put.content_is loan t slots whole at low w there a read placed may part r plan shows p on own in
        let test = (and_parts (w.serial == w.serial) (layers.same_part (part_at placed.layers (minus p w.place)) q) (ap (λ o. same_owner o (Content w.serial q)) (sym is) ∙ e)).1 in
        let same = same_part-true (part_at placed.layers (minus p w.place)) q test in (
          ap (λ place. layers.same_part (part_at placed.layers (minus p place)) q) (may.there w there) ∙ test,
          ap (λ x. shows x (minus p w.place)) (sym same) ∙ put.shown_is loan t slots whole at low w there a read placed may part r plan shows p on own (ap (λ x. layers.same_part x Picture) same ∙ no_picture),
        )

    -- each pixel after the drawing
    pixel_is : (mid end : Bits) → Draws (holds r.erase) (λ p _. false) t.screen mid → IsDrawnAfresh part placed w.place r shows mid end
        → bit end p ≡ (if is_afresh then scratch (now shows) p else (if holds r.erase p then false else bit t.screen p))
    pixel_is mid end white drawn = pixel_by part placed w.place r shows t.screen mid end p w.serial its (scratch (now shows) p) on_before draw_is its_value white drawn

    -- what is no content of the window stays as it was
    still : (mid end : Bits) → Draws (holds r.erase) (λ p _. false) t.screen mid → IsDrawnAfresh part placed w.place r shows mid end
        → is_content_of w.serial its ≡ false → bit end p ≡ bit t.screen p
    still mid end white drawn e =
        pixel_is mid end white drawn
        ∙ ap (λ b. if b then scratch (now shows) p else (if holds r.erase p then false else bit t.screen p)) (afresh_is_content w.serial part its e)
        ∙ ap (λ b. if b then false else bit t.screen p) (erase_is ∙ ap (λ b. b && (not is_afresh && not had)) e)

    -- what is no content shows what it is to show
    pub plain_is : (mid end : Bits) → Draws (holds r.erase) (λ p _. false) t.screen mid → IsDrawnAfresh part placed w.place r shows mid end
        → is_content its ≡ false → bit end p ≡ own_bit (now shows) its p
    plain_is mid end white drawn e =
        let none = no_content w.serial its e in
        let same = put.others_are loan t slots whole at low w there a read placed may part r plan shows p on none in
        still mid end white drawn none
        ∙ whole.frames p on (ap is_content (sym same) ∙ e)
        ∙ ap (λ o. own_bit (layered_desk before) o p) (sym same)
        ∙ sym (put.plain_same loan t slots whole at low w there a read placed may part r plan shows its p e)

    -- each pixel has its value
    pub image_is : (was : List ℕ → Part → PixelSet) (mid end : Bits) → Draws (holds r.erase) (λ p _. false) t.screen mid → IsDrawnAfresh part placed w.place r shows mid end
        → bit end p ≡ plain.image_by (put.change loan t slots whole at low w there a read placed may part r plan) (layered_state (state_showing was (state_of loan t slots))) (now shows) its p
    image_is was mid end white drawn = by_content (is_content its) refl
      where
        had_is : plain.had (put.change loan t slots whole at low w there a read placed may part r plan) (layered_desk (desk_showing was before)) its p ≡ had
        had_is = ap (λ o. layers.on_screen (layered_desk before) p && same_owner o its) (owner_showing was before p)

        had_elsewhere : is_content_of w.serial its ≡ false → had ≡ true
        had_elsewhere e =
            let same = put.others_are loan t slots whole at low w there a read placed may part r plan shows p on e in
            λ i. on i && (ap (λ o. same_owner o its) (sym same) ∙ same_owner-self its) i

        table : (m f h s b : Bool) → (m ≡ false → h ≡ true) → (if f then s else (if m && (not f && not h) then false else b)) ≡ (if f then s else (if not h then false else b))
        table true true h s b e = refl
        table true false true s b e = refl
        table true false false s b e = refl
        table false true h s b e = refl
        table false false true s b e = refl
        table false false false s b e = absurd (false≢true (e refl))

        by_content : (c : Bool) → is_content its ≡ c → bit end p ≡ plain.image_by (put.change loan t slots whole at low w there a read placed may part r plan) (layered_state (state_showing was (state_of loan t slots))) (now shows) its p
        by_content false c =
            plain_is mid end white drawn c
            ∙ sym (scratch_is_owners (now shows) p (put.distinct loan t slots whole at low w there a read placed may part r plan shows))
            ∙ sym (unless (is_content its) (scratch (now shows) p) _ c)
        by_content true c =
            pixel_is mid end white drawn
            ∙ ap (λ b. if is_afresh then scratch (now shows) p else (if b then false else bit t.screen p)) erase_is
            ∙ table (is_content_of w.serial its) is_afresh had (scratch (now shows) p) (bit t.screen p) had_elsewhere
            ∙ sym (λ i. if not (c i) then scratch (now shows) p else (if is_afresh then scratch (now shows) p else (if not (had_is i) then false else bit t.screen p)))
