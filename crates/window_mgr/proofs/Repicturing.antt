-- A window manager of which one window got another picture, or has it elsewhere.
use Rattle.std.proofs.Common.{◌≡◌, ℕ, zero, suc, ◌==◌, ◌&&◌, ◌||◌, Bool, true, false, if◌then◌else◌, List, [], ◌∷◌, length, map, set, None, Some, pos, refl, sym, ap, ◌∙◌, subst, arith}
use Rattle.std.specs.Prelude.{All, slice_get}
use Rattle.std.specs.Option.{option_map}
use Rattle.std.proofs.lemmas.Bool.{eqb-true}
use Rattle.std.proofs.lemmas.List.{length-map}
use Rattle.std.proofs.lemmas.List.Elements.{All-head, All-tail, All-cons}
use Rattle.std.proofs.lemmas.Option.{slice_get-map, slice_get_within, get_or_from_slice_get}
use Rattle.tb_geom.specs.declared.point.Point.{Point}
use Rattle.tb_geom.specs.Points.{PixelSet}
use Rattle.tb_geom.specs.Pixels.{Pixels}
use Rattle.tb_geom.specs.Rects.{in_plane}
use Rattle.bit_map.specs.Bits.{bit}
use Rattle.draw_port.specs.declared.shapes.Op.{Op}
use Rattle.def_iface.specs.Slots.{TakenBox}
use Rattle.def_iface.specs.WindowMeaning.{WindowLoan}
use Rattle.def_iface.specs.WindowSlots.{WindowSlot}
use Rattle.desk_layers.specs.declared.part.Part.{Part}
use Rattle.desk_layers.specs.Desk as layers
use Rattle.desk_layers.specs.Desk.{LayeredDesk}
use Rattle.desk_layers.specs.declared.part.Part.TheVariants.{Picture}
use Rattle.desk_layers.specs.Owner.{Owner, owner, own_bit, same_owner, is_content}
use Rattle.desk_layers.specs.Owner.Owner.{Desktop, Bar, Frame, Content}
use Rattle.desk_layers.specs.Scratch.{scratch}
use Rattle.desk_layers.specs.Change as plain
use Rattle.desk_layers.proofs.Owning.{same_number, not_first, same_owner-self}
use Rattle.desk_layers.proofs.Painting.{scratch_is_owners}
use Rattle.vis_update.specs.declared.area.Area.{Area}
use Rattle.vis_update.specs.Records.{WindowRecord, Look, layered_window, record_of}
use Rattle.vis_update.specs.Areas.{stale_in, IsGray, IsDesktop, IsArea, AreAreas, is_content_of}
use Rattle.window_list.specs.declared.window.Window.{Window}
use Rattle.window_mgr.specs.declared.manager.WindowManager.{WindowManager}
use Rattle.window_mgr.specs.FullDesk.{FullDesk, layered_desk, layered_state}
use Rattle.window_mgr.specs.Finding.{record_with}
use Rattle.window_mgr.specs.Records.{desk_of, state_of, look_on}
use Rattle.window_paint.specs.White.{all_white}
use Rattle.window_mgr.specs.Whole.{IsWholeManager, IsSoundDesk, IsSettled, LieThere}
use Rattle.window_mgr.proofs.DrawRefusals.{record_there}
use Rattle.window_mgr.proofs.EachChanged.{stocked_map, numbered_map}
use Rattle.window_mgr.proofs.FindLemmas.{area_at, not_among}
use Rattle.window_mgr.proofs.KeptLemmas.{kept}
use Rattle.window_mgr.proofs.Repictured as layered
use Rattle.window_mgr.proofs.Repictured.{repictured, repictured_serial, repictured_slot}
use Rattle.window_mgr.proofs.LayerParts.{lies_set}

-- ---- owners that are content or not

pub no_content : (s : ℕ) (o : Owner) → is_content o ≡ false → is_content_of s o ≡ false
no_content s Desktop e = refl
no_content s Bar e = refl
no_content s (Frame t) e = refl
no_content s (Content t part) e = absurd (cc)

pub no_layer : (s : ℕ) (part : Part) (o : Owner) → is_content o ≡ false → same_owner o (Content s part) ≡ false
no_layer s part Desktop e = refl
no_layer s part Bar e = refl
no_layer s part (Frame t) e = refl
no_layer s part (Content t other) e = absurd (cc)

-- what is content of a window is one of its layers
pub its_layer : (s : ℕ) (o : Owner) → is_content_of s o ≡ true → (part : Part) × (o ≡ Content s part)
its_layer s Desktop e = absurd (cc)
its_layer s Bar e = absurd (cc)
its_layer s (Frame t) e = absurd (cc)
its_layer s (Content t part) e = (part, ap (λ n. Content n part) (eqb-true t s e))

-- what is no content is in no update region
pub not_stale : (desk : LayeredDesk) (stale : PixelSet) (ws : List WindowRecord) (areas : List Area) (p : Point) → AreAreas desk stale ws areas → is_content (owner desk p) ≡ false → stale_in areas p ≡ false
not_stale desk stale [] [] p its e = refl
not_stale desk stale (w ∷ ws) (a ∷ areas) p its e =
    λ i. ((its.0.update p ∙ ap (λ b. b && stale p) (its.0.visible p ∙ ap (λ b. layers.on_screen desk p && b) (no_content w.serial (owner desk p) e) ∙ and_false (layers.on_screen desk p))) i) || not_stale desk stale ws areas p its.1 e i
  where
    and_false : (b : Bool) → (b && false) ≡ false
    and_false true = refl
    and_false false = refl
not_stale desk stale [] (a ∷ areas) p its e = absurd its
not_stale desk stale (w ∷ ws) [] p its e = absurd its

-- ---- a window that is put into its place

module _ (look : Look) (s : ℕ) (picture : WindowRecord → List Op) (origin : WindowRecord → Point) where
  abbrev one : Bool → WindowRecord → WindowRecord
  one b w = if b then record w { picture = picture w; origin = origin w } else w

  -- a window of another number is as it was
  untouched : (ws : List WindowRecord) → layers.window_of s (map (layered_window look) ws) ≡ None → map (repictured s picture origin) ws ≡ ws
  untouched [] none = refl
  untouched (w ∷ ws) none =
      let first = not_first (w.serial == s) (layered_window look w) (layers.window_of s (map (layered_window look) ws)) none in
      λ i. one (first.0 i) w ∷ untouched ws first.1 i

  module _ {V : Type 0} {H : V → Type 0} (loan : TakenBox V H → WindowLoan) where
    abbrev pub put_anew : Window V H → Window V H
    put_anew x = record x { picture = picture (record_of loan x); origin = origin (record_of loan x) }

    put_is_map : (ws : List (Window V H)) (i : ℕ) (x : Window V H) → layers.AreWindows (map (layered_window look) (map (record_of loan) ws)) → slice_get ws i ≡ Some x → x.serial ≡ s
        → map (record_of loan) (set ws i (put_anew x)) ≡ map (repictured s picture origin) (map (record_of loan) ws)
    put_is_map [] i x distinct there number = absurd (cc)
    put_is_map (w ∷ ws) zero x distinct there number =
        let same : w ≡ x = cc in
        let its : w.serial ≡ s = ap (λ (y : Window V H). y.serial) same ∙ number in
        let test : (w.serial == s) ≡ true = ap (λ n. n == s) its ∙ same_number s in
        let none : layers.window_of s (map (layered_window look) (map (record_of loan) ws)) ≡ None = subst (λ n. layers.window_of n (map (layered_window look) (map (record_of loan) ws)) ≡ None) its distinct.0 in
        λ i. (ap (λ (y : Window V H). record_of loan (put_anew y)) (sym same) ∙ ap (λ b. one b (record_of loan w)) (sym test)) i ∷ sym (untouched (map (record_of loan) ws) none) i
    put_is_map (w ∷ ws) (suc i) x distinct there number =
        let other : (w.serial == x.serial) ≡ false = not_among look w.serial (map (record_of loan) ws) i (record_of loan x) distinct.0 (slice_get-map (record_of loan) ws i ∙ ap (option_map (record_of loan)) there) in
        let test : (w.serial == s) ≡ false = ap (λ n. w.serial == n) (sym number) ∙ other in
        λ k. one (sym test k) (record_of loan w) ∷ put_is_map ws i x distinct.1.1 there number k

    -- a window is settled wherever its picture lies, if that is a point
    put_settled : (ws : List (Window V H)) (i : ℕ) (x : Window V H) → slice_get ws i ≡ Some x → in_plane (origin (record_of loan x)) ≡ true → All IsSettled (map (record_of loan) ws) → All IsSettled (map (record_of loan) (set ws i (put_anew x)))
    put_settled [] i x there placed all = all
    put_settled (w ∷ ws) zero x there placed all =
        let same : w ≡ x = cc in
        let its = subst (λ (y : Window V H). IsSettled (record_of loan y)) same (All-head IsSettled (record_of loan w) (map (record_of loan) ws) all) in
        All-cons IsSettled (record_of loan (put_anew x)) (map (record_of loan) ws)
        (record { origin = placed; placed = its.placed; live = its.live; told = its.told; fits = its.fits; inside = its.inside; within = its.within; layers = its.layers; goes_by = its.goes_by })
        (All-tail IsSettled (record_of loan w) (map (record_of loan) ws) all)
    put_settled (w ∷ ws) (suc i) x there placed all =
        All-cons IsSettled (record_of loan w) (map (record_of loan) (set ws i (put_anew x)))
        (All-head IsSettled (record_of loan w) (map (record_of loan) ws) all)
        (put_settled ws i x there placed (All-tail IsSettled (record_of loan w) (map (record_of loan) ws) all))

-- ---- the area of a window

module _ {V : Type 0} {H : V → Type 0} (loan : TakenBox V H → WindowLoan) (t : WindowManager V H) (slots : List WindowSlot) (whole : IsWholeManager loan t slots) (at s : ℕ) (x : Window V H) (there : slice_get t.windows.records.items at ≡ Some x) (number : x.serial ≡ s) where
  abbrev desk : LayeredDesk
  desk = layered_desk (desk_of loan t slots)

  -- what stands at the window's place among the areas is its own
  pub area_is : (a : Area) → slice_get t.areas.items at ≡ Some a → IsArea desk (stale_in t.areas.items) s a
  area_is a e =
      let low = slice_get_within t.areas.items at a e in
      let its = area_at desk (stale_in t.areas.items) (desk_of loan t slots).windows t.areas.items at a whole.areas low in
      let both : Some its.0 ≡ Some (record_of loan x) = sym its.1 ∙ slice_get-map (record_of loan) t.windows.records.items at ∙ ap (option_map (record_of loan)) there in
      let same : its.0 ≡ record_of loan x = cc in
      let serial : its.0.serial ≡ s = ap (λ (w : WindowRecord). w.serial) same ∙ number in
      subst (λ (y : ℕ × Area). IsArea desk (stale_in t.areas.items) y.0 y.1) (λ i. (serial i, get_or_from_slice_get t.areas.items at a a e i)) its.2

-- ---- all that is known where one window got another picture, or has it elsewhere

module _ {V : Type 0} {H : V → Type 0} (loan : TakenBox V H → WindowLoan) (s : ℕ) (picture : WindowRecord → List Op) (origin : WindowRecord → Point) where
  pub record IsRepictured (at : ℕ) (t new : WindowManager V H) : Type 0 where
    pub window : Window V H
    pub there : slice_get t.windows.records.items at ≡ Some window
    pub number : window.serial ≡ s
    pub placed : in_plane (origin (record_of loan window)) ≡ true
    pub windows : new.windows.records.items ≡ set t.windows.records.items at (put_anew (look_on t) s picture origin loan window)
    pub width : new.screen.width ≡ t.screen.width
    pub height : new.screen.height ≡ t.screen.height
    pub bar : new.bar ≡ t.bar
    pub font : new.font ≡ t.font
    pub gray : new.gray ≡ t.gray
    pub desktop : new.desktop ≡ t.desktop
    pub active : new.windows.active ≡ t.windows.active
    pub next : new.windows.next ≡ t.windows.next
    -- what is no content shows what it showed
    pub frames : (p : Point) → layers.on_screen (layered_desk (desk_of loan t [])) p ≡ true → is_content (owner (layered_desk (desk_of loan t [])) p) ≡ false → bit new.screen p ≡ bit t.screen p
    -- the windows own what they owned
    pub areas : AreAreas (layered_desk (desk_of loan t [])) (stale_in new.areas.items) (desk_of loan t []).windows new.areas.items

  module _ (at : ℕ) (t new : WindowManager V H) (slots : List WindowSlot) (whole : IsWholeManager loan t slots) (D : IsRepictured at t new) where
    abbrev before : FullDesk
    before = desk_of loan t slots

    abbrev pub after : FullDesk
    after = layered.after before s picture origin

    pub found : record_with s before.windows ≡ Some (record_of loan D.window)
    found = record_there loan t (kept loan t slots whole) at s D.window D.there D.number

    windows_are : map (record_of loan) new.windows.records.items ≡ after.windows
    windows_are = ap (map (record_of loan)) D.windows ∙ put_is_map (look_on t) s picture origin loan t.windows.records.items at D.window whole.sound.distinct D.there D.number

    pub desk_is : desk_of loan new slots ≡ after
    desk_is = λ i. record {
      width = pos (D.width i);
      height = pos (D.height i);
      bar = D.bar i;
      font = D.font i;
      shows = all_white;
      windows = windows_are i;
      active = D.active i;
      next = D.next i;
      stock = slots;
    }

    pub owner_same : (p : Point) → owner (layered_desk after) p ≡ owner (layered_desk before) p
    owner_same p = layered.owner_same before s picture origin p

    pub after_distinct : layers.IsDesk (layered_desk after)
    after_distinct = layered.after_is_desk before s picture origin whole.sound.distinct

    -- ---- the pixels

    plain_is : (p : Point) → layers.on_screen (layered_desk before) p ≡ true → is_content (owner (layered_desk before) p) ≡ false → bit new.screen p ≡ own_bit (layered_desk after) (owner (layered_desk before) p) p
    plain_is p on e =
        D.frames p on e
        ∙ whole.frames p on e
        ∙ sym (layered.others_show before s picture origin (owner (layered_desk before) p) p (no_layer s Picture (owner (layered_desk before) p) e))

    -- what is no content shows what painting from nothing gives
    pub scratch_is : (p : Point) → layers.on_screen (layered_desk before) p ≡ true → is_content (owner (layered_desk before) p) ≡ false → bit new.screen p ≡ scratch (layered_desk after) p
    scratch_is p on e = plain_is p on e ∙ ap (λ o. own_bit (layered_desk after) o p) (sym (owner_same p)) ∙ sym (scratch_is_owners (layered_desk after) p after_distinct)

    pub not_stale_now : (p : Point) → is_content (owner (layered_desk before) p) ≡ false → stale_in new.areas.items p ≡ false
    not_stale_now p e = not_stale (layered_desk before) (stale_in new.areas.items) before.windows new.areas.items p D.areas e

    -- a change that is right for content is right
    module _ (c : plain.Change) (was : plain.State)
        (stale : (p : Point) → layers.on_screen (layered_desk before) p ≡ true → is_content (owner (layered_desk before) p) ≡ true → stale_in new.areas.items p ≡ plain.stale_by c was (owner (layered_desk before) p) p)
        (image : (p : Point) → layers.on_screen (layered_desk before) p ≡ true → is_content (owner (layered_desk before) p) ≡ true → bit new.screen p ≡ plain.image_by c was (layered_desk after) (owner (layered_desk before) p) p) where
      stale_is : (p : Point) → layers.on_screen (layered_desk before) p ≡ true → stale_in new.areas.items p ≡ plain.stale_by c was (owner (layered_desk before) p) p
      stale_is p on = by_content (is_content (owner (layered_desk before) p)) refl
        where
          by_content : (b : Bool) → is_content (owner (layered_desk before) p) ≡ b → stale_in new.areas.items p ≡ plain.stale_by c was (owner (layered_desk before) p) p
          by_content true e = stale p on e
          by_content false e = rw e (not_stale_now p e)

      image_is : (p : Point) → layers.on_screen (layered_desk before) p ≡ true → bit new.screen p ≡ plain.image_by c was (layered_desk after) (owner (layered_desk before) p) p
      image_is p on = by_content (is_content (owner (layered_desk before) p)) refl
        where
          by_content : (b : Bool) → is_content (owner (layered_desk before) p) ≡ b → bit new.screen p ≡ plain.image_by c was (layered_desk after) (owner (layered_desk before) p) p
          by_content true e = image p on e
          by_content false e = rw e (scratch_is p on e)

      pub changed : plain.IsChanged c was (layered_state (state_of loan new slots))
      changed = record {
        stale = subst (λ (k : LayeredDesk). (p : Point) → layers.on_screen k p ≡ true → stale_in new.areas.items p ≡ plain.stale_by c was (owner k p) p) (sym (ap layered_desk desk_is))
            (λ p on. stale_is p on ∙ ap (λ o. plain.stale_by c was o p) (sym (owner_same p)));
        image = subst (λ (k : LayeredDesk). (p : Point) → layers.on_screen k p ≡ true → bit new.screen p ≡ plain.image_by c was k (owner k p) p) (sym (ap layered_desk desk_is))
            (λ p on. image_is p on ∙ ap (λ o. plain.image_by c was (layered_desk after) o p) (sym (owner_same p)));
      }

    -- what shows at a point was there, of the same owner
    pub had_is : (c : plain.Change) (p : Point) → c.source (owner (layered_desk before) p) p ≡ p → layers.on_screen (layered_desk before) p ≡ true → plain.had c (layered_desk before) (owner (layered_desk before) p) p ≡ true
    had_is c p stays on =
        ap (λ q. layers.on_screen (layered_desk before) q && same_owner (owner (layered_desk before) q) (owner (layered_desk before) p)) stays
        ∙ (λ i. on i && same_owner-self (owner (layered_desk before) p) i)

    -- ---- what is kept

    sound_after : IsSoundDesk after
    sound_after =
        let long : length after.windows ≡ length before.windows = length-map before.windows (repictured s picture origin) in
        let few = whole.sound.few in
        record {
          screen = whole.sound.screen;
          distinct = after_distinct;
          serials = numbered_map (repictured s picture origin) (repictured_serial s picture origin) before.next before.windows whole.sound.serials;
          few = omega arith;
          settled = subst (All IsSettled) (ap (map (record_of loan)) (sym D.windows) ∙ windows_are) (put_settled (look_on t) s picture origin loan t.windows.records.items at D.window D.there D.placed whole.sound.settled);
          stocked = stocked_map (repictured s picture origin) (repictured_slot s picture origin) before.windows slots whole.sound.stocked;
        }

    area_same : (stale : PixelSet) (n m : ℕ) (a : Area) → n ≡ m → IsArea (layered_desk before) stale n a → IsArea (layered_desk after) stale m a
    area_same stale n m a same its = record {
      visible = λ p. its.visible p ∙ (λ i. layers.on_screen (layered_desk before) p && is_content_of (same i) (sym (owner_same p) i));
      update = its.update;
      frame = λ p. its.frame p ∙ (λ i. layers.on_screen (layered_desk before) p && same_owner (sym (owner_same p) i) (Frame (same i)));
    }

    areas_same : (stale : PixelSet) (ws : List WindowRecord) (areas : List Area) → AreAreas (layered_desk before) stale ws areas → AreAreas (layered_desk after) stale (map (repictured s picture origin) ws) areas
    areas_same stale [] [] its = tt
    areas_same stale (w ∷ ws) (a ∷ areas) its = (area_same stale w.serial (repictured s picture origin w).serial a (sym (repictured_serial s picture origin w)) its.0, areas_same stale ws areas its.1)
    areas_same stale [] (a ∷ areas) its = absurd its
    areas_same stale (w ∷ ws) [] its = absurd its

    pub is_whole : IsWholeManager loan new slots
    is_whole = record {
      sound = subst IsSoundDesk (sym desk_is) sound_after;
      gray = subst (λ (x : FullDesk × Pixels). IsGray (layered_desk x.0) x.1) (λ i. (sym desk_is i, sym D.gray i)) whole.gray;
      desktop = subst (λ (x : FullDesk × Pixels). IsDesktop (layered_desk x.0) x.1) (λ i. (sym desk_is i, sym D.desktop i)) (λ p. whole.desktop p ∙ (λ i. layers.on_screen (layered_desk before) p && same_owner (sym (owner_same p) i) Desktop));
      areas = subst (λ (x : FullDesk). AreAreas (layered_desk x) (stale_in new.areas.items) x.windows new.areas.items) (sym desk_is) (areas_same (stale_in new.areas.items) before.windows new.areas.items D.areas);
      frames = subst (λ (k : LayeredDesk). (p : Point) → layers.on_screen k p ≡ true → is_content (owner k p) ≡ false → bit new.screen p ≡ own_bit k (owner k p) p) (sym (ap layered_desk desk_is))
          (λ p on e. plain_is p on (ap is_content (sym (owner_same p)) ∙ e) ∙ ap (λ o. own_bit (layered_desk after) o p) (sym (owner_same p)));
      layers = subst (All LieThere) (sym D.windows) (lies_set t.windows.records.items at D.window (put_anew (look_on t) s picture origin loan D.window) D.there (λ lies. lies) whole.layers);
    }
