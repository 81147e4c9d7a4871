-- What holds of text records between calls holds where one of them is changed, put behind the others, or taken out.
use Rattle.std.proofs.Common.{◌≡◌, ℕ, zero, suc, ◌<◌, ◌≤◌, Bool, true, false, ◌==◌, ◌&&◌, cond, List, [], ◌∷◌, ◌++◌, map, Some, refl, sym, ap, ◌∙◌, subst, arith, eqb-true}
use Rattle.std.specs.Prelude.{All, slice_get}
use Rattle.std.specs.List.{list_any, remove}
use Rattle.std.proofs.lemmas.Bool.{and_parts, eq-eqb, false≢true}
use Rattle.std.proofs.lemmas.List.Elements.{All-append, All-cons, All-map, All-nil, All-weaker}
use Rattle.tb_geom.specs.Rects.{is_in_range, rect_holds}
use Rattle.text_record.specs.Placings.{box_of}
use Rattle.text_record.specs.Texts.{Record}
use Rattle.window_items.specs.Items.{AreApart, are_before, is_before, count_of, edit_at, has_serial, is_in_at, items_of, serial_after, with_kept}
use Rattle.window_items.proofs.EditLemmas.{All-edit, All-remove, All-there, any-edit, before-edit, count-edit}
use Rattle.window_items.proofs.LawLemmas.{no_others, still_before}
use Rattle.window_items.proofs.SerialLemmas.{apart-remove, apart_more}
use Rattle.window_items.proofs.WindowLemmas.{count_of-push, count_of-push_other, count_of-remove, count_of-remove_other, is_in_at-other, items_of-edit_at, items_of-edit_at_other, items_of-push_other, items_of-remove_other, slice_get-items_of}
use Rattle.window_list.specs.declared.layer.Layer.{Layer}
use Rattle.vis_update.specs.Records.{WindowRecord}
use Rattle.vis_update.specs.Relayings.{with_layers_of}
use Rattle.window_mgr.specs.Refused.{is_missing}
use Rattle.control_mgr.proofs.Settled.{missing-layers}
use Rattle.text_mgr.specs.TextDesks.{KeptText, TextsState}
use Rattle.text_mgr.specs.TextLayers.{AreTextLayersOf, IsLayerOf}
use Rattle.text_mgr.specs.TextRefusals.{most_texts}
use Rattle.text_mgr.specs.WholeTexts.{AreWholeTexts}
use Rattle.text_mgr.proofs.Layered.{zip_edit}

-- ---- one text record

-- the record has the same box, and is shown where it was
pub record SameBox (r s : Record) : Type 0 where
  pub framed : s.framed ≡ r.framed
  pub view : s.view ≡ r.view
  pub shown : s.shown ≡ r.shown

pub box_is : (r s : Record) → SameBox r s → box_of s.framed s.view ≡ box_of r.framed r.view
box_is r s same = λ i. box_of (same.framed i) (same.view i)

-- so its layer is the same
pub same_layer : (f : Record → Record) (x : KeptText) (l : Layer) → SameBox x.kept (f x.kept) → IsLayerOf x l → IsLayerOf (with_kept f x) l
same_layer f x l same its = record {
  part = its.part;
  shape = record {
    shown = its.shape.shown ∙ sym same.shown;
    region = λ p. its.shape.region p ∙ (λ i. rect_holds (sym (box_is x.kept (f x.kept) same) i) p);
    bounds = its.shape.bounds ∙ sym (box_is x.kept (f x.kept) same);
  };
}

apart_edit : (g : KeptText → KeptText) → ((x : KeptText) → (g x).serial ≡ x.serial) → (i : ℕ) (xs : List KeptText) → AreApart xs → AreApart (edit_at g i xs)
apart_edit g same i [] h = tt
apart_edit g same zero (x ∷ xs) h = (ap (λ s. list_any (has_serial s) xs) (same x) ∙ h.0, h.1)
apart_edit g same (suc i) (x ∷ xs) h = (any-edit x.serial g same i xs ∙ h.0, apart_edit g same i xs h.1)

-- ---- windows

-- the layers of each window that are text records' are those of its own
abbrev pub AreJoined : List KeptText → List WindowRecord → Type 0
AreJoined ts ws = All (λ w. AreTextLayersOf (items_of w.serial ts) w.layers) ws

-- where a window's layers come to be those of its text records as they are now, and those of other windows stay
pub joined_laid : (s : ℕ) (ls : List Layer) (ts us : List KeptText) (ws : List WindowRecord) → AreTextLayersOf (items_of s us) ls
    → ((t : ℕ) → (t ≡ s → ⊥) → items_of t us ≡ items_of t ts) → AreJoined ts ws → AreJoined us (map (with_layers_of s ls) ws)
joined_laid s ls ts us ws new others joined =
    All-map (λ w. AreTextLayersOf (items_of w.serial us) w.layers) (with_layers_of s ls) ws
    (All-weaker (λ w. AreTextLayersOf (items_of w.serial ts) w.layers) (λ w. AreTextLayersOf (items_of (with_layers_of s ls w).serial us) (with_layers_of s ls w).layers)
    (λ w h. by_test w h (w.serial == s) refl) ws joined)
  where
    by_test : (w : WindowRecord) → AreTextLayersOf (items_of w.serial ts) w.layers → (b : Bool) → (w.serial == s) ≡ b
        → AreTextLayersOf (items_of (cond b (record w { layers = ls }) w).serial us) (cond b (record w { layers = ls }) w).layers
    by_test w h true e = subst (λ t. AreTextLayersOf (items_of t us) ls) (sym (eqb-true w.serial s e)) new
    by_test w h false e = subst (λ xs. AreTextLayersOf xs w.layers) (sym (others w.serial (λ same. false≢true (sym e ∙ eq-eqb w.serial s same)))) h

-- where one is changed that has the same layer then
joined_edit : (g : KeptText → KeptText) → ((x : KeptText) → (g x).window ≡ x.window) → (at : ℕ) (ts : List KeptText)
    → ((x : KeptText) (l : Layer) → slice_get ts at ≡ Some x → IsLayerOf x l → IsLayerOf (g x) l)
    → (ws : List WindowRecord) → AreJoined ts ws → AreJoined (edit_at g at ts) ws
joined_edit g window at ts same ws joined =
    All-weaker (λ w. AreTextLayersOf (items_of w.serial ts) w.layers) (λ w. AreTextLayersOf (items_of w.serial (edit_at g at ts)) w.layers)
    (λ w h. by_test w h (is_in_at w.serial at ts) refl) ws joined
  where
    by_test : (w : WindowRecord) → AreTextLayersOf (items_of w.serial ts) w.layers → (b : Bool) → is_in_at w.serial at ts ≡ b → AreTextLayersOf (items_of w.serial (edit_at g at ts)) w.layers
    by_test w h true e =
        subst (λ xs. AreTextLayersOf xs w.layers) (sym (items_of-edit_at g window w.serial at ts e))
        (zip_edit g _ (items_of w.serial ts) _ h (λ x l r. same x l (sym (slice_get-items_of w.serial at ts e) ∙ r)))
    by_test w h false e = subst (λ xs. AreTextLayersOf xs w.layers) (sym (items_of-edit_at_other g window w.serial at ts e)) h

-- windows of which one has other layers have each text record in a window that is there as well
somewhere_laid : (s : ℕ) (ls : List Layer) (ws : List WindowRecord) (ts : List KeptText) → All (λ t. is_missing t.window ws ≡ false) ts
    → All (λ t. is_missing t.window (map (with_layers_of s ls) ws) ≡ false) ts
somewhere_laid s ls ws ts h =
    All-weaker (λ (t : KeptText). is_missing t.window ws ≡ false) (λ (t : KeptText). is_missing t.window (map (with_layers_of s ls) ws) ≡ false)
    (λ t e. missing-layers s t.window ls ws ∙ e) ts h

-- ---- the whole

-- text records of which one is changed that keeps its box are whole, whatever the scrap
pub whole_edited : (f : Record → Record) (at : ℕ) (ws : List WindowRecord) (s : TextsState) (scrap : List ℕ) → ((x : KeptText) → slice_get s.texts at ≡ Some x → SameBox x.kept (f x.kept))
    → AreWholeTexts ws s → AreWholeTexts ws (record s { texts = edit_at (with_kept f) at s.texts; scrap = scrap })
whole_edited f at ws s scrap same whole = record {
  boxes = All-edit (λ (t : KeptText). is_in_range (box_of t.kept.framed t.kept.view) ≡ true) (with_kept f) at s.texts whole.boxes
      (λ x e. ap is_in_range (box_is x.kept (f x.kept) (same x e)) ∙ All-there (λ (t : KeptText). is_in_range (box_of t.kept.framed t.kept.view) ≡ true) at s.texts x e whole.boxes);
  apart = apart_edit (with_kept f) (λ x. refl) at s.texts whole.apart;
  given = before-edit s.next (with_kept f) (λ x. refl) at s.texts ∙ whole.given;
  somewhere = All-edit (λ (t : KeptText). is_missing t.window ws ≡ false) (with_kept f) at s.texts whole.somewhere
      (λ x e. All-there (λ (t : KeptText). is_missing t.window ws ≡ false) at s.texts x e whole.somewhere);
  few = λ w. subst (λ n. n ≤ most_texts) (sym (count-edit (with_kept f) (λ x. refl) w at s.texts)) (whole.few w);
  joined = joined_edit (with_kept f) (λ x. refl) at s.texts (λ x l e its. same_layer f x l (same x e) its) ws whole.joined;
}

-- those of which one lies elsewhere are whole beside the windows with its layer so
pub whole_laid : (f : Record → Record) (at window : ℕ) (ls : List Layer) (ws : List WindowRecord) (s : TextsState) → AreWholeTexts ws s → is_in_at window at s.texts ≡ true
    → ((x : KeptText) → slice_get s.texts at ≡ Some x → is_in_range (box_of (f x.kept).framed (f x.kept).view) ≡ true)
    → AreTextLayersOf (items_of window (edit_at (with_kept f) at s.texts)) ls
    → AreWholeTexts (map (with_layers_of window ls) ws) (record s { texts = edit_at (with_kept f) at s.texts })
whole_laid f at window ls ws s whole here may joined = record {
  boxes = All-edit (λ (t : KeptText). is_in_range (box_of t.kept.framed t.kept.view) ≡ true) (with_kept f) at s.texts whole.boxes may;
  apart = apart_edit (with_kept f) (λ x. refl) at s.texts whole.apart;
  given = before-edit s.next (with_kept f) (λ x. refl) at s.texts ∙ whole.given;
  somewhere = somewhere_laid window ls ws (edit_at (with_kept f) at s.texts)
      (All-edit (λ (t : KeptText). is_missing t.window ws ≡ false) (with_kept f) at s.texts whole.somewhere
      (λ x e. All-there (λ (t : KeptText). is_missing t.window ws ≡ false) at s.texts x e whole.somewhere));
  few = λ w. subst (λ n. n ≤ most_texts) (sym (count-edit (with_kept f) (λ x. refl) w at s.texts)) (whole.few w);
  joined = joined_laid window ls s.texts (edit_at (with_kept f) at s.texts) ws joined
      (λ t away. items_of-edit_at_other (with_kept f) (λ x. refl) t at s.texts (is_in_at-other window t at s.texts (λ e. away (sym e)) here)) whole.joined;
}

-- those without one of them are whole beside the windows without its layer
pub whole_removed : (at window : ℕ) (ls : List Layer) (ws : List WindowRecord) (s : TextsState) → AreWholeTexts ws s → is_in_at window at s.texts ≡ true
    → AreTextLayersOf (items_of window (remove s.texts at)) ls
    → AreWholeTexts (map (with_layers_of window ls) ws) (record s { texts = remove s.texts at })
whole_removed at window ls ws s whole here joined = record {
  boxes = All-remove (λ (t : KeptText). is_in_range (box_of t.kept.framed t.kept.view) ≡ true) at s.texts whole.boxes;
  apart = apart-remove at s.texts whole.apart;
  given = before_removed at s.texts whole.given;
  somewhere = somewhere_laid window ls ws (remove s.texts at) (All-remove (λ (t : KeptText). is_missing t.window ws ≡ false) at s.texts whole.somewhere);
  few = λ w. fewer w (is_in_at w at s.texts) refl;
  joined = joined_laid window ls s.texts (remove s.texts at) ws joined
      (λ t away. items_of-remove_other t at s.texts (is_in_at-other window t at s.texts (λ e. away (sym e)) here)) whole.joined;
}
  where
    before_removed : (i : ℕ) (xs : List KeptText) → are_before s.next xs ≡ true → are_before s.next (remove xs i) ≡ true
    before_removed zero [] h = h
    before_removed (suc i) [] h = h
    before_removed zero (x ∷ xs) h = (and_parts (is_before s.next x.serial) (are_before s.next xs) h).1
    before_removed (suc i) (x ∷ xs) h =
        let parts = and_parts (is_before s.next x.serial) (are_before s.next xs) h in
        let rest = before_removed i xs parts.1 in (λ t. parts.0 t && rest t)

    fewer : (w : ℕ) (b : Bool) → is_in_at w at s.texts ≡ b → count_of w (remove s.texts at) ≤ most_texts
    fewer w true e = let one = count_of-remove w at s.texts e in let few = whole.few w in omega (arith, one, few)
    fewer w false e = subst (λ n. n ≤ most_texts) (sym (count_of-remove_other w at s.texts e)) (whole.few w)

-- those with one more behind the others are whole beside the windows with its layer
pub whole_pushed : (x : KeptText) (ls : List Layer) (ws : List WindowRecord) (s : TextsState) → AreWholeTexts ws s → s.next ≡ Some x.serial
    → is_in_range (box_of x.kept.framed x.kept.view) ≡ true → is_missing x.window ws ≡ false → count_of x.window s.texts < most_texts
    → AreTextLayersOf (items_of x.window (s.texts ++ x ∷ [])) ls
    → AreWholeTexts (map (with_layers_of x.window ls) ws) (record s { texts = s.texts ++ x ∷ []; next = serial_after x.serial })
whole_pushed x ls ws s whole next box there few joined = record {
  boxes = All-append (λ (t : KeptText). is_in_range (box_of t.kept.framed t.kept.view) ≡ true) s.texts (x ∷ []) whole.boxes
      (All-cons (λ (t : KeptText). is_in_range (box_of t.kept.framed t.kept.view) ≡ true) x [] box (All-nil (λ (t : KeptText). is_in_range (box_of t.kept.framed t.kept.view) ≡ true)));
  apart = apart_more x s.texts (no_others x s.texts given) whole.apart;
  given = still_before x s.texts given;
  somewhere = somewhere_laid x.window ls ws (s.texts ++ x ∷ [])
      (All-append (λ (t : KeptText). is_missing t.window ws ≡ false) s.texts (x ∷ []) whole.somewhere
      (All-cons (λ (t : KeptText). is_missing t.window ws ≡ false) x [] there (All-nil (λ (t : KeptText). is_missing t.window ws ≡ false))));
  few = λ w. more w (x.window == w) refl;
  joined = joined_laid x.window ls s.texts (s.texts ++ x ∷ []) ws joined
      (λ t away. items_of-push_other t s.texts x (elsewhere t away (x.window == t) refl)) whole.joined;
}
  where
    given : are_before (Some x.serial) s.texts ≡ true
    given = subst (λ o. are_before o s.texts ≡ true) next whole.given

    elsewhere : (t : ℕ) → (t ≡ x.window → ⊥) → (b : Bool) → (x.window == t) ≡ b → (x.window == t) ≡ false
    elsewhere t away true e = absurd (away (sym (eqb-true x.window t e)))
    elsewhere t away false e = e

    more : (w : ℕ) (b : Bool) → (x.window == w) ≡ b → count_of w (s.texts ++ x ∷ []) ≤ most_texts
    more w true e =
        let named = eqb-true x.window w e in
        let one = count_of-push w s.texts x e in
        let less : count_of w s.texts < most_texts = subst (λ n. count_of n s.texts < most_texts) named few in
        omega (arith, one, less)
    more w false e = subst (λ n. n ≤ most_texts) (sym (count_of-push_other w s.texts x e)) (whole.few w)
