-- A window manager whose menu bar has other titles.
use Rattle.std.proofs.Common.{◌≡◌, Bool, true, false, not, ◌&&◌, if◌then◌else◌, List, [], ◌∷◌, pos, refl, sym, ap, ◌∙◌, subst}
use Rattle.std.specs.Prelude.{int_lt}
use Rattle.std.proofs.lemmas.Bool.{false≢true}
use Rattle.tb_geom.specs.declared.point.Point.{Point}
use Rattle.bit_map.specs.Bits.{Bits, bit, on_map}
use Rattle.bit_blit.specs.Draws.{Draws}
use Rattle.def_iface.specs.Slots.{TakenBox}
use Rattle.def_iface.specs.WindowMeaning.{WindowLoan}
use Rattle.def_iface.specs.WindowSlots.{WindowSlot}
use Rattle.desk_layers.specs.Desk as layers
use Rattle.desk_layers.specs.Desk.{LayeredDesk}
use Rattle.desk_layers.specs.Owner.{Owner, owner, owner_among, own_bit, same_owner, is_content}
use Rattle.desk_layers.specs.Owner.Owner.{Desktop, Bar, Frame, Content}
use Rattle.desk_layers.specs.Scratch.{scratch}
use Rattle.desk_layers.specs.Change as plain
use Rattle.desk_layers.proofs.Owning.{same_owner-self}
use Rattle.desk_layers.proofs.Painting.{scratch_is_owners}
use Rattle.desk_ground.specs.declared.titles.BarTitle.{BarTitle}
use Rattle.desk_ground.specs.Bars.{bar_picture}
use Rattle.vis_update.specs.Areas.{IsGray, IsDesktop, AreAreas, stale_in}
use Rattle.vis_update.specs.declared.area.Area.{Area}
use Rattle.vis_update.specs.Records.{WindowRecord}
use Rattle.window_mgr.specs.declared.manager.WindowManager.{WindowManager}
use Rattle.window_mgr.specs.FullDesk.{FullDesk, layered_desk, layered_state}
use Rattle.window_mgr.specs.BarShown.{IsBarShown}
use Rattle.window_mgr.specs.Records.{desk_of, state_of}
use Rattle.window_mgr.specs.Whole.{IsWholeManager, IsSoundDesk}
use Rattle.window_mgr.proofs.Arranged.{between-is_below}
use Rattle.window_mgr.proofs.Committing.{not_bar_among}
use Rattle.window_mgr.proofs.Remarked.{unless}
use Rattle.window_mgr.proofs.Repicturing.{not_stale}

module _ {V : Type 0} {H : V → Type 0} (loan : TakenBox V H → WindowLoan) (t : WindowManager V H) (slots : List WindowSlot) (whole : IsWholeManager loan t slots) (titles : List BarTitle) (screen : Bits)
    (drawn : Draws (λ p. int_lt p.v t.bar.rows) (λ p _. bar_picture t.font titles p) t.screen screen) where
  abbrev pub with_titles : WindowManager V H
  with_titles = record t { bar = record t.bar { titles = titles }; screen = screen }

  abbrev before : FullDesk
  before = desk_of loan t slots

  abbrev after : FullDesk
  after = record before { bar = record before.bar { titles = titles } }

  abbrev was : LayeredDesk
  was = layered_desk before

  abbrev now : LayeredDesk
  now = layered_desk after

  desk_is : desk_of loan with_titles slots ≡ after
  desk_is = λ i. record before { width = pos (drawn.width i); height = pos (drawn.height i); bar = record before.bar { titles = titles } }

  on_map_is : (p : Point) → layers.on_screen was p ≡ on_map t.screen p
  unfolding on_map
  on_map_is p = λ i. between-is_below t.screen.width p.h i && between-is_below t.screen.height p.v i

  image_now : (p : Point) → layers.on_screen was p ≡ true → bit screen p ≡ (if int_lt p.v t.bar.rows then bar_picture t.font titles p else bit t.screen p)
  image_now p on = drawn.pixels p (sym (on_map_is p) ∙ on)

  same_bit : (p : Point) (o : Owner) → same_owner o Bar ≡ false → own_bit now o p ≡ own_bit was o p
  same_bit p Desktop e = refl
  same_bit p Bar e = absurd (false≢true (sym e))
  same_bit p (Frame s) e = refl
  same_bit p (Content s part) e = refl

  frames_now : (p : Point) → layers.on_screen was p ≡ true → is_content (owner now p) ≡ false → bit screen p ≡ own_bit now (owner now p) p
  frames_now p on c = by_bar (int_lt p.v t.bar.rows) refl
    where
      by_bar : (b : Bool) → int_lt p.v t.bar.rows ≡ b → bit screen p ≡ own_bit now (owner now p) p
      by_bar true e =
          image_now p on ∙ ap (λ b. if b then bar_picture t.font titles p else bit t.screen p) e
          ∙ sym (ap (λ b. own_bit now (if b then Bar else owner_among was.windows p) p) e)
      by_bar false e =
          let is : owner was p ≡ owner_among was.windows p = ap (λ b. if b then Bar else owner_among was.windows p) e in
          image_now p on ∙ ap (λ b. if b then bar_picture t.font titles p else bit t.screen p) e
          ∙ whole.frames p on c ∙ ap (λ o. own_bit was o p) is
          ∙ sym (same_bit p (owner_among was.windows p) (not_bar_among was.windows p))
          ∙ sym (ap (λ o. own_bit now o p) is)

  content_now : (p : Point) → layers.on_screen was p ≡ true → is_content (owner now p) ≡ true → bit screen p ≡ bit t.screen p
  content_now p on c = image_now p on ∙ by_bar (int_lt p.v t.bar.rows) refl
    where
      by_bar : (b : Bool) → int_lt p.v t.bar.rows ≡ b → (if int_lt p.v t.bar.rows then bar_picture t.font titles p else bit t.screen p) ≡ bit t.screen p
      by_bar true e = absurd (false≢true (sym (ap (λ b. is_content (if b then Bar else owner_among was.windows p)) e) ∙ c))
      by_bar false e = ap (λ b. if b then bar_picture t.font titles p else bit t.screen p) e

  sound_now : IsSoundDesk after
  sound_now = let s = whole.sound in record {
    screen = s.screen;
    distinct = s.distinct;
    serials = s.serials;
    few = s.few;
    settled = s.settled;
    stocked = s.stocked;
  }

  had_is : (p : Point) → layers.on_screen was p ≡ true → plain.had plain.no_change was (owner was p) p ≡ true
  had_is p on = λ i. on i && same_owner-self (owner was p) i

  abbrev state : plain.State
  state = layered_state (state_of loan t slots)

  changed : plain.IsChanged plain.no_change state (record { desk = now; stale = stale_in t.areas.items; image = bit screen })
  changed = record { stale = stale_is; image = image_is }
    where
      stale_is : (p : Point) → layers.on_screen now p ≡ true → stale_in t.areas.items p ≡ plain.stale_by plain.no_change state (owner now p) p
      stale_is p on = by_content (is_content (owner was p)) refl
        where
          by_content : (b : Bool) → is_content (owner was p) ≡ b → stale_in t.areas.items p ≡ plain.stale_by plain.no_change state (owner now p) p
          by_content false c = not_stale was (stale_in t.areas.items) before.windows t.areas.items p whole.areas c ∙ sym (unless (is_content (owner was p)) false _ c)
          by_content true c = sym (λ i. if not (c i) then false else (if had_is p on i then stale_in t.areas.items p else true))

      image_is : (p : Point) → layers.on_screen now p ≡ true → bit screen p ≡ plain.image_by plain.no_change state now (owner now p) p
      image_is p on = by_content (is_content (owner now p)) refl
        where
          by_content : (b : Bool) → is_content (owner now p) ≡ b → bit screen p ≡ plain.image_by plain.no_change state now (owner now p) p
          by_content false c = frames_now p on c ∙ sym (scratch_is_owners now p whole.sound.distinct) ∙ sym (unless (is_content (owner now p)) (scratch now p) _ c)
          by_content true c =
              content_now p on c
              ∙ sym (λ i. if not (c i) then scratch now p else (if not (had_is p on i) then false else bit t.screen p))

  areas_now : (ws : List WindowRecord) (areas : List Area) → AreAreas was (stale_in t.areas.items) ws areas → AreAreas now (stale_in t.areas.items) ws areas
  areas_now [] [] its = tt
  areas_now (w ∷ ws) (a ∷ areas) its = (record { visible = its.0.visible; update = its.0.update; frame = its.0.frame }, areas_now ws areas its.1)
  areas_now [] (a ∷ areas) its = absurd its
  areas_now (w ∷ ws) [] its = absurd its

  pub titles_whole : IsWholeManager loan with_titles slots
  titles_whole = record {
    sound = subst IsSoundDesk (sym desk_is) sound_now;
    gray = subst (λ (y : FullDesk). IsGray (layered_desk y) t.gray) (sym desk_is) whole.gray;
    desktop = subst (λ (y : FullDesk). IsDesktop (layered_desk y) t.desktop) (sym desk_is) whole.desktop;
    areas = subst (λ (y : FullDesk). AreAreas (layered_desk y) (stale_in t.areas.items) y.windows t.areas.items) (sym desk_is) (areas_now before.windows t.areas.items whole.areas);
    frames = subst (λ (k : LayeredDesk). (p : Point) → layers.on_screen k p ≡ true → is_content (owner k p) ≡ false → bit screen p ≡ own_bit k (owner k p) p) (sym (ap layered_desk desk_is)) frames_now;
    layers = whole.layers;
  }

  pub titles_shown : IsBarShown titles (state_of loan t slots) (state_of loan with_titles slots)
  titles_shown = record {
    desk = desk_is;
    pixels = subst (λ (k : LayeredDesk). plain.IsChanged plain.no_change state (record { desk = k; stale = stale_in t.areas.items; image = bit screen })) (sym (ap layered_desk desk_is)) changed;
  }
