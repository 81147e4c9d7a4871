-- The desk of which one window got other layers, as it is planned: whose its pixels are, and what they are to show.
use Rattle.std.proofs.Common.{◌≡◌, ℕ, ◌<◌, ◌&&◌, Bool, true, false, if◌then◌else◌, List, length, map, set, Option, Some, refl, sym, ap, ◌∙◌, subst, arith}
use Rattle.std.specs.Prelude.{All, get_or, slice_get}
use Rattle.std.specs.Option.{option_map}
use Rattle.std.proofs.lemmas.Bool.{false≢true, and_parts}
use Rattle.std.specs.List.{list_all}
use Rattle.std.proofs.lemmas.List.{length-map}
use Rattle.std.proofs.lemmas.Option.{slice_get-map, slice_get-get_or}
use Rattle.tb_geom.specs.declared.point.Point.{Point}
use Rattle.tb_geom.specs.Points.{PixelSet, minus}
use Rattle.draw_port.specs.Ops.{picture_bit}
use Rattle.desk_layers.specs.declared.part.Part.{Part}
use Rattle.desk_layers.specs.declared.part.Part.TheVariants.{Picture}
use Rattle.def_iface.specs.Slots.{TakenBox}
use Rattle.def_iface.specs.WindowMeaning.{WindowLoan}
use Rattle.def_iface.specs.WindowSlots.{WindowSlot}
use Rattle.desk_layers.specs.Desk as layers
use Rattle.desk_layers.specs.Desk.{LayeredDesk}
use Rattle.desk_layers.specs.Owner.{Owner, owner, own_bit, content_bit, is_content}
use Rattle.desk_layers.specs.Owner.Owner.{Desktop, Bar, Frame, Content}
use Rattle.desk_layers.specs.Scratch.{scratch}
use Rattle.desk_layers.specs.Change as plain
use Rattle.desk_layers.proofs.Owning.{same_number}
use Rattle.desk_layers.proofs.Painting.{scratch_is_owners}
use Rattle.window_list.specs.Holders.{PlacedLayers, part_at, fits_at}
use Rattle.vis_update.specs.declared.area.Area.{Area}
use Rattle.vis_update.specs.declared.relaying.Relaying.{Relaying}
use Rattle.vis_update.specs.Areas.{is_content_of, stale_in, AreAreas}
use Rattle.vis_update.specs.Plans.{AreAreasAfter}
use Rattle.vis_update.specs.Records.{WindowRecord, layered_window, record_of}
use Rattle.vis_update.specs.Relayings.{with_layers_of, HasLayersAt, IsRelayered, IsRelaid, afresh_change}
use Rattle.vis_update.proofs.Relayed.{relayered}
use Rattle.vis_update.proofs.RelaidAreas.{has_layers, areas_relaid, same_content}
use Rattle.vis_update.proofs.UpdateLemmas.{areas_are, updated_is_stale}
use Rattle.window_list.specs.declared.window.Window.{Window}
use Rattle.window_mgr.specs.declared.manager.WindowManager.{WindowManager}
use Rattle.window_mgr.specs.Edits.{IsWindowAt}
use Rattle.window_mgr.specs.FullDesk.{FullDesk, layered_desk, layered_state, look_of}
use Rattle.window_mgr.specs.Records.{desk_of, state_of, look_on}
use Rattle.window_mgr.specs.Relayered.{MayHaveLayers, IsPlanOfLayers}
use Rattle.window_mgr.specs.Whole.{IsWholeManager, IsSoundDesk}
use Rattle.window_mgr.proofs.Covered as covered
use Rattle.window_mgr.proofs.EachChanged.{stocked_map, numbered_map}
use Rattle.window_mgr.proofs.LayerParts.{part_bit_is}
use Rattle.window_mgr.proofs.OtherLayers.{parts_are, same_serial, same_slot, same_frames, apart_so, settled_so}
use Rattle.window_mgr.proofs.Remarked.{area_low, window_at}
use Rattle.window_mgr.proofs.Showing.{distinct_showing}

module _ {V : Type 0} {H : V → Type 0} (loan : TakenBox V H → WindowLoan) (t : WindowManager V H) (slots : List WindowSlot) (whole : IsWholeManager loan t slots) (at : ℕ) (low : at < length t.windows.records.items) (w : Window V H) (there : IsWindowAt t.windows.records.items at w) (a : Area) (read : a ≡ get_or t.areas.items at a)
    (placed : PlacedLayers) (may : MayHaveLayers at t placed) (part : Option Part) (r : Relaying) (plan : IsPlanOfLayers loan at placed.layers part t r) where
  abbrev pub before : FullDesk
  before = desk_of loan t slots

  abbrev pub change : plain.Change
  change = afresh_change w.serial part

  -- the window's record, with the layers
  abbrev its_record : WindowRecord
  its_record = record (record_of loan w) { layers = placed.layers }

  -- the desk with them, where controls and lists show this
  abbrev pub after : (Part → PixelSet) → FullDesk
  after shows = record before { windows = map (with_layers_of w.serial placed.layers) before.windows; shows = shows }

  abbrev pub now : (Part → PixelSet) → LayeredDesk
  now shows = layered_desk (after shows)

  abbrev pub areas : List Area
  areas = set t.areas.items at (record a { update = r.update })

  record_there : slice_get before.windows at ≡ Some (record_of loan w)
  record_there = covered.record_there loan t slots whole at low w there

  has : All (HasLayersAt w.serial w.place w.layers.layers) before.windows
  has = has_layers (look_on t) w.serial before.windows at (record_of loan w) whole.sound.distinct record_there refl

  pub fits : placed.place ≡ w.place
  fits = may.there w there

  -- ---- the desk

  pub sound : IsSoundDesk (after before.shows)
  sound =
      let long : length (after before.shows).windows ≡ length before.windows = length-map before.windows (with_layers_of w.serial placed.layers) in
      let few = whole.sound.few in
      record {
        screen = whole.sound.screen;
        distinct = apart_so w.serial placed.layers (look_on t) before.windows may.apart whole.sound.distinct;
        serials = numbered_map (with_layers_of w.serial placed.layers) (same_serial w.serial placed.layers) before.next before.windows whole.sound.serials;
        few = omega arith;
        settled = settled_so w.serial placed.layers w.place w.layers.layers before.windows (subst (λ place. list_all (fits_at place) placed.layers ≡ true) fits may.fit) has whole.sound.settled;
        stocked = stocked_map (with_layers_of w.serial placed.layers) (same_slot w.serial placed.layers) before.windows slots whole.sound.stocked;
      }

  module _ (shows : Part → PixelSet) where
    pub distinct : layers.IsDesk (now shows)
    distinct = apart_so w.serial placed.layers (look_of (after shows)) before.windows may.apart (distinct_showing (λ font. shows) before whole.sound.distinct)

    pub is_relayered : IsRelayered w.serial w.place w.layers.layers placed.layers (layered_desk before) (now shows)
    is_relayered = relayered (look_on t) (look_of (after shows)) w.serial w.place w.layers.layers placed.layers (layered_desk before) (now shows) before.windows refl refl refl refl refl has

    pub is_relaid : IsRelaid w.serial part (layered_state (state_of loan t slots)) (now shows) r
    is_relaid = plan w there (now shows) is_relayered

    areas_after : AreAreasAfter change (layered_state (state_of loan t slots)) (now shows) (after shows).windows areas
    areas_after =
        areas_relaid (look_on t) w.serial w.place part w.layers.layers placed.layers (layered_state (state_of loan t slots)) (now shows) is_relayered r before.windows t.areas.items at (record_of loan w) a whole.sound.distinct record_there refl
        (slice_get-get_or t.areas.items at a (area_low loan t slots whole at low) ∙ ap Some (sym read)) whole.areas is_relaid

    -- each window has its area
    pub areas_right : AreAreas (now shows) (stale_in areas) (after shows).windows areas
    areas_right = areas_are (look_of (after shows)) change (layered_state (state_of loan t slots)) (now shows) (after shows).windows areas refl areas_after

    pub stale_is : (p : Point) → layers.on_screen (now shows) p ≡ true → stale_in areas p ≡ plain.stale_by change (layered_state (state_of loan t slots)) (owner (now shows) p) p
    stale_is p on = updated_is_stale (look_of (after shows)) change (layered_state (state_of loan t slots)) (now shows) (after shows).windows areas p refl areas_after on

    -- ---- what the pixels are to show

    -- what is no content shows what it showed
    pub plain_same : (o : Owner) (p : Point) → is_content o ≡ false → own_bit (now shows) o p ≡ own_bit (layered_desk before) o p
    plain_same Desktop p e = refl
    plain_same Bar p e = refl
    plain_same (Frame s) p e = same_frames w.serial placed.layers t.font shows before.shows s before.windows p
    plain_same (Content s q) p e = absurd (false≢true (sym e))

    module _ (p : Point) (on : layers.on_screen (now shows) p ≡ true) where
      -- the layer of the window that has the pixel
      abbrev part_there : Part
      part_there = part_at placed.layers (minus p w.place)

      -- content of the window is that layer
      pub content_is : is_content_of w.serial (owner (now shows) p) ≡ true → owner (now shows) p ≡ Content w.serial part_there
      content_is its =
          let both = and_parts (layers.on_screen (layered_desk before) p) (is_content_of w.serial (owner (layered_desk before) p))
          (same_content w.serial w.place part w.layers.layers placed.layers (layered_state (state_of loan t slots)) (now shows) is_relayered p ∙ (λ i. on i && its i)) in
          is_relayered.becomes p both.0 both.1

      -- what is no content of it has the owner that it had
      pub others_are : is_content_of w.serial (owner (now shows) p) ≡ false → owner (now shows) p ≡ owner (layered_desk before) p
      others_are none = by_test (is_content_of w.serial (owner (layered_desk before) p)) refl
        where
          on_before : layers.on_screen (layered_desk before) p ≡ true
          on_before = sym (is_relayered.screen p) ∙ on

          by_test : (b : Bool) → is_content_of w.serial (owner (layered_desk before) p) ≡ b → owner (now shows) p ≡ owner (layered_desk before) p
          by_test true own = absurd (false≢true (sym none ∙ ap (is_content_of w.serial) (is_relayered.becomes p on_before own) ∙ same_number w.serial))
          by_test false own = is_relayered.others p on_before own

      -- a control or list that owns the pixel is to show there what it shows
      pub shown_is : is_content_of w.serial (owner (now shows) p) ≡ true → layers.same_part part_there Picture ≡ false → shows part_there (minus p w.place) ≡ scratch (now shows) p
      shown_is its no_picture =
          let here : slice_get (after shows).windows at ≡ Some its_record =
          slice_get-map (with_layers_of w.serial placed.layers) before.windows at ∙ ap (option_map (with_layers_of w.serial placed.layers)) record_there
          ∙ ap (λ b. Some (if b then its_record else record_of loan w)) (same_number w.serial) in
          let found : layers.window_of w.serial (now shows).windows ≡ Some (layered_window (look_of (after shows)) its_record) =
          window_at (look_of (after shows)) (after shows).windows at its_record distinct here in
          sym (scratch_is_owners (now shows) p distinct
          ∙ ap (λ o. own_bit (now shows) o p) (content_is its)
          ∙ ap (λ v. content_bit v part_there p) found
          ∙ part_bit_is (look_of (after shows)) its_record (minus p w.place) (parts_are (look_of (after shows)) (its_record.definition.content its_record.size) its_record placed.layers may.apart)
          ∙ ap (λ b. if b then picture_bit t.font w.picture (minus (minus p w.place) w.origin) else shows part_there (minus p w.place)) no_picture)
