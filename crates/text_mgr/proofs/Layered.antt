-- Text records and the layers of one window that are theirs.
use Rattle.std.proofs.Common.{◌≡◌, ℕ, zero, suc, ◌+◌, Bool, true, false, cond, List, [], ◌∷◌, ◌++◌, length, Some, None, refl, sym, ap, ◌∙◌, subst, arith}
use Rattle.std.specs.Prelude.{All, slice_get, nat_lt}
use Rattle.std.specs.List.{AllZip, filter, insert, list_any, position_or_len, remove}
use Rattle.std.proofs.lemmas.Bool.{cond-true, eq-eqb, false≢true, lt-ltb, ltb-true}
use Rattle.std.proofs.lemmas.List.Elements.{All-cons, All-nil}
use Rattle.desk_layers.specs.declared.part.Part.{Part}
use Rattle.desk_layers.specs.declared.part.Part.TheVariants as part
use Rattle.desk_layers.specs.Desk.{same_part}
use Rattle.desk_layers.proofs.Owning.{same_part-self}
use Rattle.desk_call.specs.declared.update.LayerKind.TheVariants.{Texts}
use Rattle.window_items.specs.Items.{AreApart, edit_at, has_serial}
use Rattle.window_items.proofs.SerialLemmas.{or_parts}
use Rattle.window_list.specs.declared.layer.Layer.{Layer}
use Rattle.window_list.specs.declared.layer.LayerShape.{LayerShape}
use Rattle.window_list.specs.Holders.{layer_index}
use Rattle.window_list.specs.LayerChanges.{reshaped, with_shape}
use Rattle.window_list.proofs.Parts.{same_part-turned}
use Rattle.window_paint.specs.Kinds.{is_of}
use Rattle.text_mgr.specs.TextDesks.{KeptText}
use Rattle.text_mgr.specs.TextLayers.{AreTextLayersOf, IsLayerOf}

-- the layers that are text records'
abbrev pub is_text : Layer → Bool
is_text l = is_of Texts l.part

abbrev pub text_layers : List Layer → List Layer
text_layers ls = filter is_text ls

-- ---- lists that go together

pub zip_edit : (g : KeptText → KeptText) (i : ℕ) (xs : List KeptText) (ks : List Layer) → AllZip IsLayerOf xs ks → ((x : KeptText) (k : Layer) → slice_get xs i ≡ Some x → IsLayerOf x k → IsLayerOf (g x) k) → AllZip IsLayerOf (edit_at g i xs) ks
zip_edit g i [] ks h same = h
zip_edit g i (x ∷ xs) [] h same = absurd h
zip_edit g zero (x ∷ xs) (k ∷ ks) h same = (same x k refl h.0, h.1)
zip_edit g (suc i) (x ∷ xs) (k ∷ ks) h same = (h.0, zip_edit g i xs ks h.1 same)

pub zip_reshape : (g : KeptText → KeptText) (shape : LayerShape) (i : ℕ) (xs : List KeptText) (ks : List Layer) → AllZip IsLayerOf xs ks
    → ((x : KeptText) (k : Layer) → slice_get xs i ≡ Some x → IsLayerOf x k → IsLayerOf (g x) (with_shape shape k)) → AllZip IsLayerOf (edit_at g i xs) (reshaped shape i ks)
zip_reshape g shape i [] [] h new = h
zip_reshape g shape i [] (k ∷ ks) h new = absurd h
zip_reshape g shape i (x ∷ xs) [] h new = absurd h
zip_reshape g shape zero (x ∷ xs) (k ∷ ks) h new = (new x k refl h.0, h.1)
zip_reshape g shape (suc i) (x ∷ xs) (k ∷ ks) h new = (h.0, zip_reshape g shape i xs ks h.1 new)

pub zip_remove : (i : ℕ) (xs : List KeptText) (ks : List Layer) → AllZip IsLayerOf xs ks → AllZip IsLayerOf (remove xs i) (remove ks i)
zip_remove zero [] [] h = h
zip_remove (suc i) [] [] h = h
zip_remove i [] (k ∷ ks) h = absurd h
zip_remove i (x ∷ xs) [] h = absurd h
zip_remove zero (x ∷ xs) (k ∷ ks) h = h.1
zip_remove (suc i) (x ∷ xs) (k ∷ ks) h = (h.0, zip_remove i xs ks h.1)

zip_more : (xs : List KeptText) (ks : List Layer) (x : KeptText) (k : Layer) → AllZip IsLayerOf xs ks → IsLayerOf x k → AllZip IsLayerOf (xs ++ x ∷ []) (ks ++ k ∷ [])
zip_more [] [] x k h new = (new, tt)
zip_more [] (l ∷ ls) x k h new = absurd h
zip_more (y ∷ ys) [] x k h new = absurd h
zip_more (y ∷ ys) (l ∷ ls) x k h new = (h.0, zip_more ys ls x k h.1 new)

-- what goes with a layer
zip_there : (xs : List KeptText) (ks : List Layer) (i : ℕ) (k : Layer) → AllZip IsLayerOf xs ks → slice_get ks i ≡ Some k → (x : KeptText) × (slice_get xs i ≡ Some x) × IsLayerOf x k
zip_there [] [] i k h e = absurd (cc)
zip_there [] (l ∷ ls) i k h e = absurd h
zip_there (y ∷ ys) [] i k h e = absurd (cc)
zip_there (y ∷ ys) (l ∷ ls) zero k h e = let same : l ≡ k = cc in (y, refl, subst (λ z. IsLayerOf y z) same h.0)
zip_there (y ∷ ys) (l ∷ ls) (suc i) k h e = zip_there ys ls i k h.1 e

-- ---- text records of other serials

not_among : (n : ℕ) (xs : List KeptText) (i : ℕ) (x : KeptText) → list_any (has_serial n) xs ≡ false → slice_get xs i ≡ Some x → has_serial n x ≡ false
not_among n [] i x none e = absurd (cc)
not_among n (y ∷ ys) zero x none e = let same : y ≡ x = cc in ap (has_serial n) (sym same) ∙ (or_parts (has_serial n y) (list_any (has_serial n) ys) none).0
not_among n (y ∷ ys) (suc i) x none e = not_among n ys i x (or_parts (has_serial n y) (list_any (has_serial n) ys) none).1 e

-- those of one serial stand at one place
pub one_place : (xs : List KeptText) (i j : ℕ) (x y : KeptText) → AreApart xs → slice_get xs i ≡ Some x → slice_get xs j ≡ Some y → y.serial ≡ x.serial → i ≡ j
one_place [] i j x y apart e f same = absurd (cc)
one_place (z ∷ zs) zero zero x y apart e f same = refl
one_place (z ∷ zs) zero (suc j) x y apart e f same =
    let first : z ≡ x = cc in
    absurd (false≢true (sym (not_among z.serial zs j y apart.0 f) ∙ eq-eqb y.serial z.serial (same ∙ ap (λ (t : KeptText). t.serial) (sym first))))
one_place (z ∷ zs) (suc i) zero x y apart e f same =
    let first : z ≡ y = cc in
    absurd (false≢true (sym (not_among z.serial zs i x apart.0 e) ∙ eq-eqb x.serial z.serial (sym (ap (λ (t : KeptText). t.serial) first ∙ same))))
one_place (z ∷ zs) (suc i) (suc j) x y apart e f same = ap (λ k. suc k) (one_place zs i j x y apart.1 e f same)

-- ---- the layer of a text record

-- where the layer of a part stands, from the first layer on
index_first : (q : Part) (l : Layer) (ls : List Layer) → same_part l.part q ≡ true → layer_index q (l ∷ ls) ≡ Some 0
index_first q l ls e = rw e (cond-true (nat_lt 0 (suc (length ls))) (Some 0) None (lt-ltb 0 (suc (length ls)) (omega arith)))

index_next : (q : Part) (l : Layer) (ls : List Layer) (i : ℕ) → same_part l.part q ≡ false → layer_index q ls ≡ Some i → layer_index q (l ∷ ls) ≡ Some (suc i)
index_next q l ls i e found = rw e (further (position_or_len (λ (k : Layer). same_part k.part q) ls) (length ls) found)
  where
    further : (n m : ℕ) → cond (nat_lt n m) (Some n) None ≡ Some i → cond (nat_lt (1 + n) (suc m)) (Some (1 + n)) None ≡ Some (suc i)
    further n m e = by_test (nat_lt n m) refl e
      where
        by_test : (b : Bool) → nat_lt n m ≡ b → cond b (Some n) None ≡ Some i → cond (nat_lt (1 + n) (suc m)) (Some (1 + n)) None ≡ Some (suc i)
        by_test true is h =
            let same : n ≡ i = cc in
            let less = ltb-true n m is in
            ap (λ c. cond c (Some (1 + n)) None) (lt-ltb (1 + n) (suc m) (omega (arith, less))) ∙ ap (λ k. Some k) (omega (arith, same))
        by_test false is h = absurd (cc)

pub record ItsLayer (x : KeptText) (ls : List Layer) : Type 0 where
  pub index : ℕ
  pub found : layer_index (part.Text x.serial) ls ≡ Some index
  pub layer : Layer
  pub there : slice_get ls index ≡ Some layer
  pub is : IsLayerOf x layer

-- a layer that is none of text records is no text record's
no_text : (q : Part) (n : ℕ) → is_of Texts q ≡ false → same_part q (part.Text n) ≡ false
no_text part.Picture n e = refl
no_text (part.List m) n e = refl
no_text (part.Text m) n e = absurd (false≢true (sym e))
no_text (part.Control m) n e = refl

behind_other : (x : KeptText) (l : Layer) (ls : List Layer) → same_part l.part (part.Text x.serial) ≡ false → ItsLayer x ls → ItsLayer x (l ∷ ls)
behind_other x l ls other its = record {
  index = suc its.index;
  found = index_next (part.Text x.serial) l ls its.index other its.found;
  layer = its.layer;
  there = its.there;
  is = its.is;
}

pub its_layer : (ls : List Layer) (xs : List KeptText) (i : ℕ) (x : KeptText) → AreTextLayersOf xs ls → AreApart xs → slice_get xs i ≡ Some x → ItsLayer x ls
its_layer [] [] i x h apart e = absurd (cc)
its_layer [] (y ∷ ys) i x h apart e = absurd h
its_layer (l ∷ ls) xs i x h apart e = by_kind (is_text l) refl xs i h apart e (its_layer ls)
  where
    by_kind : (b : Bool) → is_text l ≡ b → (xs : List KeptText) (i : ℕ) → AllZip IsLayerOf xs (cond b (l ∷ text_layers ls) (text_layers ls)) → AreApart xs → slice_get xs i ≡ Some x
        → ((ys : List KeptText) (j : ℕ) (y : KeptText) → AreTextLayersOf ys ls → AreApart ys → slice_get ys j ≡ Some y → ItsLayer y ls) → ItsLayer x (l ∷ ls)
    by_kind false is xs i h apart e rest = behind_other x l ls (no_text l.part x.serial is) (rest xs i x h apart e)
    by_kind true is [] i h apart e rest = absurd h
    by_kind true is (y ∷ ys) zero h apart e rest =
        let same : y ≡ x = cc in
        let its : IsLayerOf x l = subst (λ z. IsLayerOf z l) same h.0 in
        record {
          index = 0;
          found = index_first (part.Text x.serial) l ls (ap (λ q. same_part q (part.Text x.serial)) its.part ∙ same_part-self (part.Text x.serial));
          layer = l;
          there = refl;
          is = its;
        }
    by_kind true is (y ∷ ys) (suc i) h apart e rest =
        behind_other x l ls
        (ap (λ q. same_part q (part.Text x.serial)) h.0.part ∙ same_part-turned (part.Text y.serial) (part.Text x.serial) ∙ not_among y.serial ys i x apart.0 e)
        (rest ys i x h.1 apart.1 e)

-- where no text record of these has a serial, no layer has it
pub none_named : (n : ℕ) (ls : List Layer) (xs : List KeptText) → AreTextLayersOf xs ls → list_any (has_serial n) xs ≡ false → All (λ l. same_part l.part (part.Text n) ≡ false) ls
none_named n [] xs h none = All-nil (λ (l : Layer). same_part l.part (part.Text n) ≡ false)
none_named n (l ∷ ls) xs h none = by_kind (is_text l) refl xs h none (none_named n ls)
  where
    by_kind : (b : Bool) → is_text l ≡ b → (xs : List KeptText) → AllZip IsLayerOf xs (cond b (l ∷ text_layers ls) (text_layers ls)) → list_any (has_serial n) xs ≡ false
        → ((ys : List KeptText) → AreTextLayersOf ys ls → list_any (has_serial n) ys ≡ false → All (λ (k : Layer). same_part k.part (part.Text n) ≡ false) ls)
        → All (λ (k : Layer). same_part k.part (part.Text n) ≡ false) (l ∷ ls)
    by_kind false is xs h none rest = All-cons (λ (k : Layer). same_part k.part (part.Text n) ≡ false) l ls (no_text l.part n is) (rest xs h none)
    by_kind true is [] h none rest = absurd h
    by_kind true is (y ∷ ys) h none rest =
        let both = or_parts (has_serial n y) (list_any (has_serial n) ys) none in
        All-cons (λ (k : Layer). same_part k.part (part.Text n) ≡ false) l ls (ap (λ q. same_part q (part.Text n)) h.0.part ∙ both.0) (rest ys h.1 both.1)

-- ---- the layers of text records, where one layer is changed

-- a text record's layer stands somewhere among those of text records, and is changed there
record Among (ls : List Layer) (i : ℕ) (l : Layer) : Type 0 where
  place : ℕ
  there : slice_get (text_layers ls) place ≡ Some l
  shaped : (shape : LayerShape) → text_layers (reshaped shape i ls) ≡ reshaped shape place (text_layers ls)
  gone : text_layers (remove ls i) ≡ remove (text_layers ls) place

among : (ls : List Layer) (i : ℕ) (l : Layer) → slice_get ls i ≡ Some l → is_text l ≡ true → Among ls i l
among [] i l e is = absurd (cc)
among (k ∷ ks) zero l e is =
    let same : k ≡ l = cc in
    first (is_text k) (ap is_text same ∙ is)
  where
    first : (b : Bool) → is_text k ≡ true → Among (k ∷ ks) zero l
    first b its = record {
      place = 0;
      there = ap (λ c. slice_get (cond c (k ∷ text_layers ks) (text_layers ks)) 0) its ∙ e;
      shaped = λ shape. ap (λ c. cond c (with_shape shape k ∷ text_layers ks) (text_layers ks)) its ∙ sym (ap (λ c. reshaped shape 0 (cond c (k ∷ text_layers ks) (text_layers ks))) its);
      gone = sym (ap (λ c. remove (cond c (k ∷ text_layers ks) (text_layers ks)) 0) its);
    }
among (k ∷ ks) (suc i) l e is = by_kind (is_text k) refl (among ks i l e is)
  where
    by_kind : (b : Bool) → is_text k ≡ b → Among ks i l → Among (k ∷ ks) (suc i) l
    by_kind true its rest = record {
      place = suc rest.place;
      there = ap (λ c. slice_get (cond c (k ∷ text_layers ks) (text_layers ks)) (suc rest.place)) its ∙ rest.there;
      shaped = λ shape. ap (λ c. cond c (k ∷ text_layers (reshaped shape i ks)) (text_layers (reshaped shape i ks))) its ∙ ap (λ xs. k ∷ xs) (rest.shaped shape)
          ∙ sym (ap (λ c. reshaped shape (suc rest.place) (cond c (k ∷ text_layers ks) (text_layers ks))) its);
      gone = ap (λ c. cond c (k ∷ text_layers (remove ks i)) (text_layers (remove ks i))) its ∙ ap (λ xs. k ∷ xs) rest.gone
          ∙ sym (ap (λ c. remove (cond c (k ∷ text_layers ks) (text_layers ks)) (suc rest.place)) its);
    }
    by_kind false its rest = record {
      place = rest.place;
      there = ap (λ c. slice_get (cond c (k ∷ text_layers ks) (text_layers ks)) rest.place) its ∙ rest.there;
      shaped = λ shape. ap (λ c. cond c (k ∷ text_layers (reshaped shape i ks)) (text_layers (reshaped shape i ks))) its ∙ rest.shaped shape
          ∙ sym (ap (λ c. reshaped shape rest.place (cond c (k ∷ text_layers ks) (text_layers ks))) its);
      gone = ap (λ c. cond c (k ∷ text_layers (remove ks i)) (text_layers (remove ks i))) its ∙ rest.gone
          ∙ sym (ap (λ c. remove (cond c (k ∷ text_layers ks) (text_layers ks)) rest.place) its);
    }

serial_of : (x y : KeptText) (l : Layer) → IsLayerOf x l → IsLayerOf y l → y.serial ≡ x.serial
serial_of x y l x_is y_is = let both : part.Text y.serial ≡ part.Text x.serial = sym y_is.part ∙ x_is.part in cc

module _ (xs : List KeptText) (ls : List Layer) (at i : ℕ) (x : KeptText) (l : Layer) (joined : AreTextLayersOf xs ls) (apart : AreApart xs) (text_there : slice_get xs at ≡ Some x)
    (layer_there : slice_get ls i ≡ Some l) (its : IsLayerOf x l) where
  found : Among ls i l
  found = among ls i l layer_there (ap (is_of Texts) its.part)

  same : at ≡ found.place
  same =
      let goes = zip_there xs (text_layers ls) found.place l joined found.there in
      one_place xs at found.place x goes.0 apart text_there goes.1 (serial_of x goes.0 l its goes.2)

  -- the text record is another, and its layer has another shape
  pub joined_reshaped : (g : KeptText → KeptText) (shape : LayerShape) → ((k : Layer) → IsLayerOf x k → IsLayerOf (g x) (with_shape shape k)) → AreTextLayersOf (edit_at g at xs) (reshaped shape i ls)
  joined_reshaped g shape new =
      subst (AllZip IsLayerOf (edit_at g at xs)) (ap (λ n. reshaped shape n (text_layers ls)) same ∙ sym (found.shaped shape))
      (zip_reshape g shape at xs (text_layers ls) joined (λ y k e was. one y k e was))
    where
      one : (y : KeptText) (k : Layer) → slice_get xs at ≡ Some y → IsLayerOf y k → IsLayerOf (g y) (with_shape shape k)
      one y k e was = let it : x ≡ y = cc in subst (λ z. IsLayerOf z k → IsLayerOf (g z) (with_shape shape k)) it (new k) was

  -- the text record is gone, and so is its layer
  pub joined_removed : AreTextLayersOf (remove xs at) (remove ls i)
  joined_removed =
      subst (AllZip IsLayerOf (remove xs at)) (ap (remove (text_layers ls)) same ∙ sym found.gone)
      (zip_remove at xs (text_layers ls) joined)

-- one more layer behind all others
pub inserted_last : (ls : List Layer) (l : Layer) → insert ls (length ls) l ≡ ls ++ l ∷ []
inserted_last [] l = refl
inserted_last (k ∷ ks) l = ap (λ xs. k ∷ xs) (inserted_last ks l)

texts_more : (ls : List Layer) (l : Layer) → is_text l ≡ true → text_layers (ls ++ l ∷ []) ≡ text_layers ls ++ l ∷ []
texts_more [] l e = ap (λ b. cond b (l ∷ []) []) e
texts_more (k ∷ ks) l e = by_kind (is_text k) (texts_more ks l e)
  where
    by_kind : (b : Bool) → text_layers (ks ++ l ∷ []) ≡ text_layers ks ++ l ∷ []
        → cond b (k ∷ text_layers (ks ++ l ∷ [])) (text_layers (ks ++ l ∷ [])) ≡ cond b (k ∷ text_layers ks) (text_layers ks) ++ l ∷ []
    by_kind true rest = ap (λ xs. k ∷ xs) rest
    by_kind false rest = rest

pub joined_more : (xs : List KeptText) (ls : List Layer) (x : KeptText) (l : Layer) → AreTextLayersOf xs ls → IsLayerOf x l → AreTextLayersOf (xs ++ x ∷ []) (ls ++ l ∷ [])
joined_more xs ls x l h new =
    subst (AllZip IsLayerOf (xs ++ x ∷ [])) (sym (texts_more ls l (ap (is_of Texts) new.part))) (zip_more xs (text_layers ls) x l h new)
