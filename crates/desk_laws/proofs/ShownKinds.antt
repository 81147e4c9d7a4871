-- Layers of which no window shows any.
use Rattle.std.proofs.Common.{◌≡◌, ℕ, ◌==◌, Bool, true, false, ◌&&◌, cond, List, [], ◌∷◌, refl, sym, ◌∙◌, subst, eqb-true}
use Rattle.std.specs.Prelude.{All}
use Rattle.std.specs.List.{AllZip}
use Rattle.std.proofs.lemmas.Bool.{and_parts, false≢true}
use Rattle.std.proofs.lemmas.List.Elements.{All-head, All-tail, All-weaker}
use Rattle.tb_geom.specs.declared.point.Point.{Point}
use Rattle.tb_geom.specs.Pixels.{holds}
use Rattle.desk_layers.specs.Owner.{Owner, is_content}
use Rattle.desk_layers.specs.Owner.Owner.{Desktop, Bar, Frame, Content}
use Rattle.window_items.specs.Items.{items_of}
use Rattle.desk_call.specs.declared.update.LayerKind.TheVariants.{Texts}
use Rattle.window_list.specs.declared.layer.Layer.{Layer}
use Rattle.window_list.specs.Holders.{layer_has, part_at}
use Rattle.vis_update.specs.Records.{WindowRecord}
use Rattle.window_paint.specs.Kinds.{is_of}
use Rattle.window_mgr.specs.Updating.{is_of_kind}
use Rattle.window_update.specs.Served.{ShowsNone}
use Rattle.text_mgr.specs.TextDesks.{KeptText}
use Rattle.text_mgr.specs.TextLayers.{AreTextLayersOf, IsLayerOf}
use Rattle.text_mgr.proofs.Layered.{text_layers}
use Rattle.desk_toolbox.specs.Reached.{IsConsistent}
use Rattle.desk_toolbox.specs.ToolboxStates.{ToolboxState}
use Rattle.desk_laws.proofs.PartsThere.{HasSuch, owners_are}

-- a text record is hidden
abbrev pub IsHiddenText : KeptText → Type 0
IsHiddenText t = t.kept.shown ≡ false

-- where the text records of layers are hidden, none of them has a point
no_text_there : (ks : List Layer) (ts : List KeptText) (q : Point) → AreTextLayersOf ts ks → All IsHiddenText ts → is_of Texts (part_at ks q) ≡ false
no_text_there [] ts q joined hidden = refl
no_text_there (k ∷ ks) ts q joined hidden = by_kind (is_of Texts k.part) refl ts joined hidden (layer_has k q) refl (λ us. no_text_there ks us q)
  where
    by_kind : (b : Bool) → is_of Texts k.part ≡ b → (us : List KeptText) → AllZip IsLayerOf us (cond b (k ∷ text_layers ks) (text_layers ks)) → All IsHiddenText us → (h : Bool) → layer_has k q ≡ h
        → ((vs : List KeptText) → AreTextLayersOf vs ks → All IsHiddenText vs → is_of Texts (part_at ks q) ≡ false) → is_of Texts (cond h k.part (part_at ks q)) ≡ false
    by_kind false is us joined hidden true has rest = is
    by_kind false is us joined hidden false has rest = rest us joined hidden
    by_kind true is [] joined hidden h has rest = absurd joined
    by_kind true is (y ∷ ys) joined hidden true has rest =
        absurd (false≢true (sym (joined.0.shape.shown ∙ All-head IsHiddenText y ys hidden) ∙ (and_parts k.shown (holds k.region q) has).0))
    by_kind true is (y ∷ ys) joined hidden false has rest = rest ys joined.1 (All-tail IsHiddenText y ys hidden)

-- so a window shows none of which all are hidden
pub shows_no_texts : (window : ℕ) (s : ToolboxState) → IsConsistent s → All (λ t. t.kept.shown ≡ false) (items_of window s.texts.texts) → ShowsNone window Texts s.desk.windows
shows_no_texts window s its hidden = λ p on.
    owners_are (λ o. is_of_kind Texts window o ≡ false) plain s.desk.windows.desk
    (All-weaker (λ (w : WindowRecord). AreTextLayersOf (items_of w.serial s.texts.texts) w.layers) (HasSuch (λ o. is_of_kind Texts window o ≡ false))
    (λ w joined q. by_window w q joined (w.serial == window) refl) s.desk.windows.desk.windows its.contents.texts.joined) p
  where
    plain : (o : Owner) → is_content o ≡ false → is_of_kind Texts window o ≡ false
    plain Desktop e = refl
    plain Bar e = refl
    plain (Frame t) e = refl
    plain (Content t a) e = absurd (false≢true (sym e))

    by_window : (w : WindowRecord) (q : Point) → AreTextLayersOf (items_of w.serial s.texts.texts) w.layers → (b : Bool) → (w.serial == window) ≡ b → (b && is_of Texts (part_at w.layers q)) ≡ false
    by_window w q joined false e = refl
    by_window w q joined true e =
        no_text_there w.layers (items_of window s.texts.texts) q (subst (λ n. AreTextLayersOf (items_of n s.texts.texts) w.layers) (eqb-true w.serial window e) joined) hidden
