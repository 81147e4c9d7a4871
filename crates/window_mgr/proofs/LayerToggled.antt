-- A layer of a window of which pixels were inverted, also where they are to be redrawn.
use Rattle.std.proofs.Common.{◌≡◌, ℕ, ◌<◌, ◌&&◌, not, Bool, true, false, if◌then◌else◌, List, length, refl, sym, ap, ◌∙◌, subst}
use Rattle.std.specs.Prelude.{get_or}
use Rattle.tb_geom.specs.declared.point.Point.{Point}
use Rattle.tb_geom.specs.Points.{PixelSet, minus}
use Rattle.tb_geom.specs.Pixels.{holds}
use Rattle.bit_map.specs.Bits.{Bits, bit}
use Rattle.bit_blit.specs.Draws.{Draws}
use Rattle.desk_layers.specs.declared.part.Part.{Part}
use Rattle.def_iface.specs.Slots.{TakenBox}
use Rattle.def_iface.specs.WindowMeaning.{WindowLoan}
use Rattle.def_iface.specs.WindowSlots.{WindowSlot}
use Rattle.desk_layers.specs.Desk as layers
use Rattle.desk_layers.specs.Desk.{LayeredDesk}
use Rattle.desk_layers.specs.Owner.{Owner, owner, same_owner, is_content}
use Rattle.desk_layers.specs.Owner.Owner.{Content}
use Rattle.desk_layers.specs.Scratch.{scratch}
use Rattle.desk_layers.specs.Change as plain
use Rattle.desk_layers.specs.Change.{Change}
use Rattle.window_list.specs.declared.layer.Layer.{Layer}
use Rattle.window_list.specs.Holders.{belongs_to}
use Rattle.vis_update.specs.declared.area.Area.{Area}
use Rattle.vis_update.specs.Areas.{is_content_of, stale_in}
use Rattle.window_list.specs.declared.window.Window.{Window}
use Rattle.window_mgr.specs.declared.manager.WindowManager.{WindowManager}
use Rattle.window_mgr.specs.Edits.{IsWindowAt}
use Rattle.window_mgr.specs.FullDesk.{FullDesk, FullState, layered_desk, layered_state}
use Rattle.window_mgr.specs.Relayered.{IsLayerToggled, toggled_change}
use Rattle.window_mgr.specs.Records.{desk_of, desk_showing, state_of, state_showing}
use Rattle.window_mgr.specs.Whole.{IsWholeManager}
use Rattle.window_mgr.proofs.EditSeats.{same_at}
use Rattle.window_mgr.proofs.Repicturing.{no_content}
use Rattle.window_mgr.proofs.Remarked.{unless}
use Rattle.window_mgr.proofs.LayerThere as here
use Rattle.window_mgr.proofs.LayerThere.{no_part}

module _ {V : Type 0} {H : V → Type 0} (loan : TakenBox V H → WindowLoan) (t : WindowManager V H) (slots : List WindowSlot) (whole : IsWholeManager loan t slots) (at : ℕ) (low : at < length t.windows.records.items) (w : Window V H) (there : IsWindowAt t.windows.records.items at w) (a : Area) (read : a ≡ get_or t.areas.items at a)
    (was now : List ℕ → Part → PixelSet) (q : Part) (screen : Bits)
    (toggles : List ℕ → PixelSet) (drawn : Draws (λ p. holds a.visible p && belongs_to q w.layers.layers (minus p w.layers.place)) (λ p d. if toggles t.font (minus p w.place) then not d else d) t.screen screen) where
  abbrev full : FullDesk
  full = desk_of loan t slots

  abbrev before : FullState
  before = state_showing was (state_of loan t slots)

  abbrev desk : LayeredDesk
  desk = layered_desk (desk_showing now full)

  abbrev stale : PixelSet
  stale = stale_in t.areas.items

  abbrev mine : Owner → Bool
  mine o = same_owner o (Content w.serial q)

  abbrev change : Change
  change = toggled_change w.serial w.place q (toggles t.font)

  module _ (p : Point) (on : layers.on_screen desk p ≡ true) where
    abbrev its : Owner
    its = owner desk p

    abbrev turned : Bool
    turned = toggles t.font (minus p w.place)

    bit_is : bit screen p ≡ (if mine its then (if turned then not (bit t.screen p) else bit t.screen p) else bit t.screen p)
    bit_is = drawn.pixels p (here.on_screen loan t slots whole at low w there a read was now q p on) ∙ ap (λ b. if b then (if turned then not (bit t.screen p) else bit t.screen p) else bit t.screen p) (here.own_is loan t slots whole at low w there a read was now q p on)

    still : is_content_of w.serial its ≡ false → bit screen p ≡ bit t.screen p
    still e = bit_is ∙ ap (λ b. if b then (if turned then not (bit t.screen p) else bit t.screen p) else bit t.screen p) (no_part w.serial q its e)

    image_is : bit screen p ≡ plain.image_by change (layered_state before) desk its p
    image_is = by_content (is_content its) refl
      where
        by_tests : (m x d : Bool) → (if m then (if x then not d else d) else d) ≡ (if m && x then not d else d)
        by_tests true x d = refl
        by_tests false x d = refl

        by_content : (b : Bool) → is_content its ≡ b → bit screen p ≡ plain.image_by change (layered_state before) desk its p
        by_content false c =
            still (no_content w.serial its c)
            ∙ here.plain_bit loan t slots whole at low w there a read was now q p on c
            ∙ sym (unless (is_content its) (scratch desk p) _ c)
        by_content true c =
            bit_is
            ∙ by_tests (mine its) turned (bit t.screen p)
            ∙ sym (λ i. if not (c i) then scratch desk p else (if not (here.had_is loan t slots whole at low w there a read was now q p on i) then false else (if mine its && turned then not (bit t.screen p) else bit t.screen p)))

  pub layer_toggled : IsWholeManager loan (record t { screen = screen }) slots × IsLayerToggled w.serial w.place q toggles before (state_showing now (state_of loan (record t { screen = screen }) slots))
  layer_toggled = (
    here.still_whole loan t slots whole at low w there a read was now q screen drawn.width drawn.height still,
    record {
      desk = here.same_desk loan t slots whole at low w there a read was now q screen drawn.width drawn.height still;
      pixels = here.changed loan t slots whole at low w there a read was now q screen drawn.width drawn.height still change (here.stale_is loan t slots whole at low w there a read was now q) image_is;
    },
  )

-- the layer at this index of the window, where the window goes by another name too
pub index_toggled : {V : Type 0} {H : V → Type 0} (loan : TakenBox V H → WindowLoan) (t : WindowManager V H) (slots : List WindowSlot) (whole : IsWholeManager loan t slots) (at : ℕ) → at < length t.windows.records.items
    → (w : Window V H) → IsWindowAt t.windows.records.items at w → (a : Area) → a ≡ get_or t.areas.items at a → (was now : List ℕ → Part → PixelSet)
    → (index : ℕ) (l : Layer) → l ≡ get_or w.layers.layers index l → (v : Window V H) → IsWindowAt t.windows.records.items at v → (screen : Bits) (toggles : List ℕ → PixelSet)
    → ((k : Layer) → k ≡ get_or v.layers.layers index k → Draws (λ p. holds a.visible p && belongs_to k.part v.layers.layers (minus p v.layers.place)) (λ p d. if toggles t.font (minus p v.place) then not d else d) t.screen screen)
    → IsWholeManager loan (record t { screen = screen }) slots × IsLayerToggled w.serial w.place l.part toggles (state_showing was (state_of loan t slots)) (state_showing now (state_of loan (record t { screen = screen }) slots))
index_toggled loan t slots whole at low w there a read was now index l l_read v v_read screen toggles drawn =
    layer_toggled loan t slots whole at low w there a read was now l.part screen toggles
    (subst (λ (z : Window _ _). (k : Layer) → k ≡ get_or z.layers.layers index k → Draws (λ p. holds a.visible p && belongs_to k.part z.layers.layers (minus p z.layers.place)) (λ p d. if toggles t.font (minus p z.place) then not d else d) t.screen screen)
    (same_at t.windows.records.items at v w low v_read there) drawn l l_read)
