-- A text record that is changed and shown anew.
use Rattle.std.proofs.Common.{◌≡◌, ℕ, zero, suc, ◌<◌, ◌==◌, Bool, true, false, not, ◌&&◌, cond, List, [], ◌∷◌, length, get_or, ℤ, ◌<ℤ◌, Option, Some, None, refl, sym, ap, ◌∙◌, subst, arith, eqb-true}
use Rattle.std.specs.Prelude.{IfSome, int_le, slice_get}
use Rattle.std.specs.Option.{option_and_then}
use Rattle.std.proofs.lemmas.Bool.{eq-eqb, eqb-false, false≢true}
use Rattle.std.proofs.lemmas.Int.{ints}
use Rattle.tb_geom.specs.declared.rect.Rect.{Rect}
use Rattle.tb_geom.specs.declared.point.Point.{Point}
use Rattle.tb_geom.specs.Pixels.{holds}
use Rattle.tb_geom.specs.Points.{PixelSet}
use Rattle.tb_geom.specs.Rects.{rect_holds}
use Rattle.tb_geom.proofs.RectLemmas.{IsInside, holds_in, sides_of}
use Rattle.desk_layers.specs.declared.part.Part.{Part}
use Rattle.desk_layers.specs.declared.part.Part.TheVariants as part
use Rattle.desk_layers.specs.Desk as layers
use Rattle.desk_layers.specs.Owner.{owner, same_owner}
use Rattle.desk_layers.specs.Owner.Owner.{Content}
use Rattle.desk_layers.proofs.Owning.{same_number, same_owner-true, same_owner-self}
use Rattle.def_iface.specs.Slots.{TakenBox}
use Rattle.def_iface.specs.WindowMeaning.{WindowLoan}
use Rattle.def_iface.specs.WindowSlots.{WindowSlot}
use Rattle.desk_call.specs.declared.text.TextOf.{TextOf}
use Rattle.desk_call.specs.declared.update.LayerKind.TheVariants.{Texts}
use Rattle.text_record.specs.Placings.{box_of}
use Rattle.text_record.specs.Texts.{Record}
use Rattle.text_paint.specs.declared.selected.Selection.{Selection}
use Rattle.text_paint.specs.Selected.{is_toggled, reselected}
use Rattle.text_paint.specs.Shown.{text_shown}
use Rattle.text_paint.proofs.LawLemmas.{toggled_shown}
use Rattle.window_items.specs.Items.{AreApart, edit_at, with_kept}
use Rattle.window_items.proofs.EditLemmas.{there_edited}
use Rattle.window_items.proofs.SerialLemmas.{with_there}
use Rattle.window_items.proofs.ListLemmas.{length-edit_at}
use Rattle.window_items.proofs.WindowLemmas.{item_index-edit_at}
use Rattle.window_list.specs.declared.layer.Layer.{Layer}
use Rattle.window_list.specs.Holders.{layer_index}
use Rattle.window_list.specs.declared.window.Window.{Window}
use Rattle.window_paint.specs.Kinds.{is_of}
use Rattle.window_mgr.specs.declared.manager.WindowManager.{WindowManager}
use Rattle.window_mgr.specs.DeskStates.{Opened}
use Rattle.window_mgr.specs.Edits.{IsWindowAt}
use Rattle.vis_update.specs.declared.area.Area.{Area}
use Rattle.vis_update.specs.Areas.{is_content_of}
use Rattle.vis_update.specs.Records.{record_of}
use Rattle.window_mgr.specs.FullDesk.{FullDesk, layered_desk}
use Rattle.window_mgr.specs.Records.{desk_of, desk_showing, state_of, state_showing}
use Rattle.window_mgr.specs.Relayered.{IsLayerDrawnWithin, IsLayerRedrawn, IsLayerToggled}
use Rattle.window_mgr.specs.Whole.{IsWholeManager}
use Rattle.window_mgr.proofs.LayerThere as there
use Rattle.window_mgr.proofs.Steps as steps
use Rattle.control_mgr.proofs.Places.{get_is}
use Rattle.text_mgr.specs.declared.changes.Change.{Change}
use Rattle.text_mgr.specs.declared.changes.Change.TheVariants.{From, Selected}
use Rattle.text_mgr.specs.declared.spots.TextAt.{TextAt}
use Rattle.text_mgr.specs.declared.texts.Texts as declared
use Rattle.text_mgr.specs.Changing.{DrawsChanged, IsShownSo}
use Rattle.text_mgr.specs.Showing.{IsDrawnAnew}
use Rattle.text_mgr.specs.Spots.{IsSpotOf}
use Rattle.text_mgr.specs.TextDesks.{KeptText, TextDesk, index_of, text_bit, text_of, texts_show, with_serial}
use Rattle.text_mgr.specs.TextSteps.{IsTextChanged, IsTextShownAnew, IsWhereRight}
use Rattle.text_mgr.specs.WholeTexts.{AreBeside, AreWholeTexts, LeavesTexts, text_desk, texts_state}
use Rattle.text_mgr.proofs.Layered.{ItsLayer}
use Rattle.text_mgr.proofs.Places.{found_names, it_is, layer_low, layer_part, layer_read, layer_there, one_there, record_there}
use Rattle.text_mgr.proofs.Reshown.{alone, redrawn_among}
use Rattle.text_mgr.proofs.Toggled.{toggled_redrawn}
use Rattle.text_mgr.proofs.Whole.{SameBox, whole_edited}

-- a text record that stands here is the one of its serial
serial_there : (x : TextOf) (ts : List KeptText) (at : ℕ) (item : KeptText) → AreApart ts → index_of x ts ≡ Some at → slice_get ts at ≡ Some item → with_serial x.text ts ≡ Some item
serial_there x ts at item apart found is =
    with_there x.text at ts item apart is (eq-eqb item.serial x.text (found_names x ts at found item is).1)

-- it shows what its record says, where the one that was lent was edited so
pub shown_lent : (f : Record → Record) (s : ℕ) (xs ys : List KeptText) (item : KeptText) (lent : Record) (change : Change) (font : List ℕ) → slice_get xs s ≡ Some item → IfSome (slice_get xs s) (λ y. lent ≡ y.kept)
    → ys ≡ edit_at (with_kept f) s xs → IsShownSo change font lent (f lent) → IfSome (slice_get ys s) (λ z. IsShownSo change font item.kept z.kept)
shown_lent f s xs ys item lent change font is lent_is edit so =
    let same : lent ≡ item.kept = subst (λ o. IfSome o (λ (y : KeptText). lent ≡ y.kept)) is lent_is in
    subst (λ o. IfSome o (λ (z : KeptText). IsShownSo change font item.kept z.kept)) (sym (ap (λ zs. slice_get zs s) edit ∙ there_edited (with_kept f) s xs item is)) (subst (λ r. IsShownSo change font r (f r)) same so)

-- the pixels of a rectangle that it does not share with its part from a row on lie above the row
above_row : (bounds : Rect) (row : ℤ) (p : Point) → rect_holds bounds p ≡ true → rect_holds (record bounds { top = row }) p ≡ false → p.v <ℤ row
above_row bounds row p held out = by_row (int_le row p.v) refl
  where
    inside : IsInside bounds p
    inside = sides_of bounds p held

    by_row : (b : Bool) → int_le row p.v ≡ b → p.v <ℤ row
    by_row true e = absurd (false≢true (sym out ∙ holds_in (record bounds { top = row }) p inside.left inside.right (grind (arith, ints)) inside.bottom))
    by_row false e = grind (arith, ints)

-- what shows the same above a row shows the same in its box outside of the part from the row on
pub above_within : (font : List ℕ) (old r : Record) (row : ℤ) (bounds within : Rect) → bounds ≡ box_of r.framed r.view
    → ((p : Point) → rect_holds within p ≡ (rect_holds bounds p && rect_holds (record bounds { top = row }) p)) → IsShownSo (From row) font old r
    → (p : Point) → rect_holds (box_of r.framed r.view) p ≡ true → rect_holds within p ≡ false → text_shown font r p ≡ text_shown font old p
unfolding IsShownSo
above_within font old r row bounds within box pixels above p held out =
    let here : rect_holds bounds p ≡ true = ap (λ b. rect_holds b p) box ∙ held in
    above p (above_row bounds row p here (sym (ap (λ b. b && rect_holds (record bounds { top = row }) p) here) ∙ sym (pixels p) ∙ out))

-- where its selection alone was another
pub selection_was : (font : List ℕ) (old r : Record) (was : Selection) → IsShownSo (Selected was) font old r → old ≡ reselected was r
unfolding IsShownSo
selection_was font old r was so = so

-- ---- the layer of a text record, drawn

module _ {V : Type 0} {H : V → Type 0} (loan : TakenBox V H → WindowLoan) (x : TextOf) (t : WindowManager V H) (m : declared.Texts) (s : TextAt) (is : IsSpotOf loan x t m s) (beside : AreBeside loan t m)
    (y : KeptText) (read : y ≡ get_or m.list.items.items s.text y) (v : Window V H) (lies : IsWindowAt t.windows.records.items s.window v) where
  abbrev its : ItsLayer (record_there loan x t m s is).item v.layers.layers
  its = layer_there loan x t m s is v lies beside

  it : (record_there loan x t m s is).item ≡ y
  it = it_is loan x t m s is y (get_is m.list.items.items s.text y is.low read)

  its_index : layer_index (part.Text y.serial) v.layers.layers ≡ Some its.index
  its_index = subst (λ (z : KeptText). layer_index (part.Text z.serial) v.layers.layers ≡ Some its.index) it its.found

  -- it is found
  pub found_at : (found : Option ℕ) → found ≡ layer_index (part.Text y.serial) v.layers.layers → found ≡ Some its.index
  found_at found e = e ∙ its_index

  module _ (index : ℕ) (found : layer_index (part.Text y.serial) v.layers.layers ≡ Some index) where
    same_index : its.index ≡ index
    same_index = one_there (layer_index (part.Text y.serial) v.layers.layers) its.index index its_index found

    pub index_low : index < length v.layers.layers
    index_low = subst (λ n. n < length v.layers.layers) same_index (layer_low loan x t m s is v lies beside)

    its_read : its.layer ≡ get_or v.layers.layers index its.layer
    its_read = subst (λ n. its.layer ≡ get_or v.layers.layers n its.layer) same_index (layer_read loan x t m s is v lies beside)

    -- drawn within its box, all of it is shown anew
    pub drawn_anew : (within : Rect) → within ≡ box_of y.kept.framed y.kept.view → (u : WindowManager V H) (shows : List ℕ → Part → PixelSet)
        → ((l : Layer) → l ≡ get_or v.layers.layers index l → (was : List ℕ → Part → PixelSet) (slots : List WindowSlot) → IsWholeManager loan t slots
        → IsWholeManager loan u slots × IsLayerDrawnWithin within v.serial l (state_showing was (state_of loan t slots)) (state_showing shows (state_of loan u slots)))
        → (was : List ℕ → Part → PixelSet) (slots : List WindowSlot) → IsWholeManager loan t slots
        → IsWholeManager loan u slots × IsDrawnAnew x (state_showing was (state_of loan t slots)) (state_showing shows (state_of loan u slots))
    drawn_anew within box u shows drawn was slots whole =
        let before = state_showing was (state_of loan t slots) in
        let after = state_showing shows (state_of loan u slots) in
        let done = drawn its.layer its_read was slots whole in (
          done.0,
          record {
            desk = done.1.desk;
            shown = λ right.
                subst (λ n. IsLayerRedrawn n (part.Text x.text) before after) (is.window.1 v lies)
                (subst (λ q. IsLayerRedrawn v.serial q before after) (layer_part loan x t m s is v lies beside)
                (done.1.redrawn right (λ p held out. absurd (false≢true (sym out ∙ (λ i. rect_holds (box i) p) ∙ (λ i. rect_holds (box_of (sym it i).kept.framed (sym it i).kept.view) p) ∙ sym (its.is.shape.region p) ∙ held)))));
          },
        )

    -- what it shows beside others that are white
    shows_here : (font : List ℕ) (p : Point) → alone m.list.items.items font (part.Text x.text) p ≡ text_shown font y.kept p
    shows_here font p =
        ap (λ o. text_bit font o p) (serial_there x m.list.items.items s.text (record_there loan x t m s is).item beside.apart is.text (record_there loan x t m s is).there)
        ∙ ap (λ (z : KeptText). text_shown font z.kept p) it

    module _ (old : Record) (u : WindowManager V H) where
      -- drawn within a rectangle, where outside of it in its box it shows what it showed before, it is shown anew
      pub drawn_within : (within : Rect) → ((p : Point) → rect_holds (box_of y.kept.framed y.kept.view) p ≡ true → rect_holds within p ≡ false → text_shown t.font y.kept p ≡ text_shown t.font old p)
          → ((l : Layer) → l ≡ get_or v.layers.layers index l → (was : List ℕ → Part → PixelSet) (slots : List WindowSlot) → IsWholeManager loan t slots
          → IsWholeManager loan u slots × IsLayerDrawnWithin within v.serial l (state_showing was (state_of loan t slots)) (state_showing (alone m.list.items.items) (state_of loan u slots)))
          → DrawsChanged loan x old t u m
      drawn_within within outside drawn was slots whole showed =
          let before = state_showing was (state_of loan t slots) in
          let after = state_showing (alone m.list.items.items) (state_of loan u slots) in
          let done = drawn its.layer its_read was slots whole in
          let its_part = layer_part loan x t m s is v lies beside in
          let same : (p : Point) → rect_holds (box_of y.kept.framed y.kept.view) p ≡ true → rect_holds within p ≡ false → after.desk.shows its.layer.part p ≡ before.desk.shows its.layer.part p =
          λ p held out.
          ap (λ q. after.desk.shows q p) its_part
          ∙ ap (λ (d : FullDesk). alone m.list.items.items d.font (part.Text x.text) p) done.1.desk
          ∙ shows_here t.font p
          ∙ outside p held out
          ∙ sym (showed p)
          ∙ sym (ap (λ q. before.desk.shows q p) its_part) in (
            done.0,
            record {
              desk = done.1.desk;
              shown = λ right.
                  subst (λ n. IsLayerRedrawn n (part.Text x.text) before after) (is.window.1 v lies)
                  (subst (λ q. IsLayerRedrawn v.serial q before after) its_part
                  (done.1.redrawn right (λ p held out. same p (ap (λ (z : KeptText). rect_holds (box_of z.kept.framed z.kept.view) p) (sym it) ∙ sym (its.is.shape.region p) ∙ held) out)));
            },
          )

      -- where none of its window is to be redrawn, and what another selection inverts was inverted
      pub drawn_toggled : (a : Area) → a ≡ get_or t.areas.items s.window a → ((p : Point) → holds a.update p ≡ false) → (selection : Selection) → old ≡ reselected selection y.kept
          → ((l : Layer) → l ≡ get_or v.layers.layers index l → (was shows : List ℕ → Part → PixelSet) (slots : List WindowSlot) → IsWholeManager loan t slots
          → IsWholeManager loan u slots × IsLayerToggled v.serial v.place l.part (λ font. is_toggled selection y.kept) (state_showing was (state_of loan t slots)) (state_showing shows (state_of loan u slots)))
          → DrawsChanged loan x old t u m
      drawn_toggled a a_is none selection reselects drawn was slots whole showed =
          let before = state_showing was (state_of loan t slots) in
          let after = state_showing (alone m.list.items.items) (state_of loan u slots) in
          let done = drawn its.layer its_read was (alone m.list.items.items) slots whole in
          let serial = is.window.1 v lies in
          let toggled : IsLayerToggled x.window v.place (part.Text x.text) (λ font. is_toggled selection y.kept) before after =
          subst (λ n. IsLayerToggled n v.place (part.Text x.text) (λ font. is_toggled selection y.kept) before after) serial
          (subst (λ q. IsLayerToggled v.serial v.place q (λ font. is_toggled selection y.kept) before after) (layer_part loan x t m s is v lies beside) done.1) in
          let now : List ℕ → Part → PixelSet = λ font. after.desk.shows in
          let fresh : (p : Point) → layers.on_screen (layered_desk after.desk) p ≡ true → owner (layered_desk after.desk) p ≡ Content x.window (part.Text x.text) → before.stale p ≡ false =
          λ p on here.
          let desk : layered_desk (desk_showing now (desk_of loan t slots)) ≡ layered_desk after.desk = ap layered_desk (sym toggled.desk) in
          let its_own : is_content_of v.serial (owner (layered_desk (desk_showing now (desk_of loan t slots))) p) ≡ true =
          ap (λ d. is_content_of v.serial (owner d p)) desk ∙ ap (is_content_of v.serial) here ∙ ap (λ n. is_content_of n (Content x.window (part.Text x.text))) serial ∙ same_number x.window in
          sym (ap (λ b. b && before.stale p) its_own)
          ∙ sym (there.update_is loan t slots whole s.window is.window.0 v lies a a_is was now (part.Text x.text) p (ap (λ d. layers.on_screen d p) desk ∙ on))
          ∙ none p in
          let shown : (p : Point) → after.desk.shows (part.Text x.text) p ≡ cond (is_toggled selection y.kept p) (not (before.desk.shows (part.Text x.text) p)) (before.desk.shows (part.Text x.text) p) =
          λ p.
          ap (λ (d : FullDesk). alone m.list.items.items d.font (part.Text x.text) p) toggled.desk
          ∙ shows_here t.font p
          ∙ toggled_shown t.font y.kept selection p
          ∙ ap (λ r. cond (is_toggled selection y.kept p) (not (text_shown t.font r p)) (text_shown t.font r p)) (sym reselects)
          ∙ ap (λ b. cond (is_toggled selection y.kept p) (not b) b) (sym (showed p)) in (
            done.0,
            record {
              desk = toggled.desk;
              shown = λ right.
                  toggled_redrawn x.window x.text (record_of loan v) (λ font. is_toggled selection y.kept) before after right
                  (steps.found loan t t slots whole s.window x.window v is.window.0 lies serial) fresh shown toggled;
            },
          )

-- ---- other text records stay

other_there : (g : KeptText → KeptText) (at i : ℕ) (xs : List KeptText) → (i ≡ at → ⊥) → slice_get (edit_at g at xs) i ≡ slice_get xs i
other_there g at i [] e = refl
other_there g zero zero (x ∷ xs) e = absurd (e refl)
other_there g zero (suc i) (x ∷ xs) e = refl
other_there g (suc at) zero (x ∷ xs) e = refl
other_there g (suc at) (suc i) (x ∷ xs) e = other_there g at i xs (λ same. e (ap (λ n. suc n) same))

-- the one that is changed alone is of another value
pub others_stay : (x : TextOf) (f : Record → Record) (at : ℕ) (ts : List KeptText) (item : KeptText) → index_of x ts ≡ Some at → slice_get ts at ≡ Some item → (y : TextOf)
    → same_owner (Content y.window (part.Text y.text)) (Content x.window (part.Text x.text)) ≡ false → text_of y (edit_at (with_kept f) at ts) ≡ text_of y ts
others_stay x f at ts item found there y other =
    ap (option_and_then (slice_get (edit_at (with_kept f) at ts))) (item_index-edit_at (with_kept f) (λ c. refl) (λ c. refl) y.window y.text at ts)
    ∙ by_place (index_of y ts) refl
  where
    by_test : (i : ℕ) → index_of y ts ≡ Some i → (b : Bool) → (i == at) ≡ b → slice_get (edit_at (with_kept f) at ts) i ≡ slice_get ts i
    by_test i e true same =
        let its = found_names y ts i e item (ap (slice_get ts) (eqb-true i at same) ∙ there) in
        let names = found_names x ts at found item there in
        absurd (false≢true (sym other ∙ (λ j. same_owner (Content ((sym its.0 ∙ names.0) j) (part.Text ((sym its.1 ∙ names.1) j))) (Content x.window (part.Text x.text))) ∙ same_owner-self (Content x.window (part.Text x.text))))
    by_test i e false same = other_there (with_kept f) at i ts (eqb-false i at same)

    by_place : (o : Option ℕ) → index_of y ts ≡ o → option_and_then (slice_get (edit_at (with_kept f) at ts)) o ≡ option_and_then (slice_get ts) o
    by_place None e = refl
    by_place (Some i) e = by_test i e (i == at) refl

text_alone : (w n s : ℕ) (q : Part) → same_owner (Content s q) (Content w (part.Text n)) ≡ true → is_of Texts q ≡ true
text_alone w n s q e =
    let same : Content s q ≡ Content w (part.Text n) = same_owner-true (Content s q) (Content w (part.Text n)) e in
    let its : q ≡ part.Text n = cc in
    ap (is_of Texts) its

-- ---- a text record that was changed, and drawn

module _ {V : Type 0} {H : V → Type 0} (loan : TakenBox V H → WindowLoan) (x : TextOf) (f : Record → Record) (scrap : List ℕ) (t u : WindowManager V H) (m n : declared.Texts) (s : TextAt)
    (is : IsSpotOf loan x t m s) (same : (y : KeptText) → slice_get m.list.items.items s.text ≡ Some y → SameBox y.kept (f y.kept))
    (texts : n.list.items.items ≡ edit_at (with_kept f) s.text m.list.items.items) (next : n.list.next ≡ m.list.next) (scrapped : n.scrap ≡ scrap) where
  state_is : texts_state n ≡ record (texts_state m) { texts = edit_at (with_kept f) s.text m.list.items.items; scrap = scrap }
  state_is = λ i. record { texts = texts i; next = next i; scrap = scrapped i }

  -- all text records are whole beside the windows as they were
  pub beside_edited : AreBeside loan t m → AreBeside loan t n
  beside_edited beside = subst (AreWholeTexts (desk_of loan t []).windows) (sym state_is) (whole_edited f s.text (desk_of loan t []).windows (texts_state m) scrap same beside)

  -- so the text record stands where it stood
  pub spot_edited : IsSpotOf loan x t n s
  spot_edited = record {
    window = is.window;
    there = is.there;
    text = ap (index_of x) texts ∙ item_index-edit_at (with_kept f) (λ c. refl) (λ c. refl) x.window x.text s.text m.list.items.items ∙ is.text;
    low = subst (λ k. s.text < k) (sym (ap length texts ∙ length-edit_at (with_kept f) s.text m.list.items.items)) is.low;
  }

  module _ (drawn : DrawsChanged loan x (record_there loan x t m s is).item.kept t u n) where
    -- the text record was changed so, and where the screen was right it was shown anew
    pub record IsDone (before after : TextDesk) : Type 0 where
      pub changed : IsTextChanged x f scrap before after
      pub shown : IsWhereRight (IsTextShownAnew x f scrap) before after

    pub put_done : (o r : Opened) → LeavesTexts loan IsDone t o m u r n
    put_done o r others slots whole beside =
        let before = text_desk loan others t o slots m in
        let after = text_desk loan others u r slots n in
        let item = record_there loan x t m s is in
        let done = drawn (texts_show others m.list.items.items) slots whole (λ p. ap (λ o. text_bit t.font o p) (serial_there x m.list.items.items s.text item.item beside.apart is.text item.there)) in
        let changed : IsTextChanged x f scrap before after = record { at = s.text; found = is.text; texts = state_is } in (
          done.0,
          subst (λ ws. AreWholeTexts ws (texts_state n)) (sym (ap (λ (d : FullDesk). d.windows) done.1.desk)) (beside_edited beside),
          record {
            changed = changed;
            shown = λ right.
                let redrawn = redrawn_among others n.list.items.items (state_of loan u slots) done.0.sound.distinct x.window before.desk.windows (part.Text x.text) refl (done.1.shown right) in
                record {
                  changed = changed;
                  shown = record {
                    anew = λ owner. same_owner owner (Content x.window (part.Text x.text));
                    texts = text_alone x.window x.text;
                    same = λ y other. ap (text_of y) texts ∙ others_stay x f s.text m.list.items.items item.item is.text item.there y other;
                    desk = redrawn.desk;
                    pixels = redrawn.pixels;
                    elsewhere = refl;
                    shows = refl;
                  };
                };
          },
        )
