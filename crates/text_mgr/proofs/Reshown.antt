-- What is promised of windows beside text records that show themselves alone holds whatever other layers show.
use Rattle.std.proofs.Common.{◌≡◌, ℕ, true, List, Option, Some, refl, sym, ap}
use Rattle.std.proofs.lemmas.Bool.{false≢true}
use Rattle.tb_geom.specs.declared.point.Point.{Point}
use Rattle.tb_geom.specs.Points.{PixelSet}
use Rattle.desk_layers.specs.declared.part.Part.{Part}
use Rattle.desk_layers.specs.declared.part.Part.TheVariants as part
use Rattle.desk_layers.specs.Desk as layers
use Rattle.desk_call.specs.declared.update.LayerKind.TheVariants.{Texts}
use Rattle.window_list.specs.declared.layer.Layer.{Layer}
use Rattle.window_paint.specs.Kinds.{is_of}
use Rattle.window_paint.specs.White.{all_white}
use Rattle.window_mgr.specs.FullDesk.{FullState, layered_desk}
use Rattle.window_mgr.specs.Records.{state_showing}
use Rattle.window_mgr.specs.Relayered.{AreLayersSet, IsLayerRedrawn}
use Rattle.control_mgr.proofs.Reshown.{redrawn_reshown, set_reshown}
use Rattle.text_mgr.specs.TextDesks.{KeptText, texts_show}

-- what these text records show, where all other layers are white
abbrev pub alone : List KeptText → List ℕ → Part → PixelSet
alone ts = texts_show (λ font. all_white) ts

-- a text record shows the same, whatever other layers show
same_text : (others : List ℕ → Part → PixelSet) (ts : List KeptText) (font : List ℕ) (q : Part) (p : Point) → is_of Texts q ≡ true → alone ts font q p ≡ texts_show others ts font q p
same_text others ts font part.Picture p e = absurd (false≢true e)
same_text others ts font (part.List n) p e = absurd (false≢true e)
same_text others ts font (part.Text n) p e = refl
same_text others ts font (part.Control n) p e = absurd (false≢true e)

-- where a text record is the part that was drawn afresh
pub one_text : (n : ℕ) (q : Part) → Some (part.Text n) ≡ Some q → is_of Texts q ≡ true
one_text n q e = let same : part.Text n ≡ q = cc in ap (is_of Texts) (sym same)

module _ (others : List ℕ → Part → PixelSet) (ts : List KeptText) (after : FullState) (distinct : layers.IsDesk (layered_desk after.desk)) (s : ℕ) (before : FullState) where
  pub set_among : (ls : List Layer) (afresh : Option Part) → ((q : Part) → afresh ≡ Some q → is_of Texts q ≡ true)
      → AreLayersSet s ls afresh before (state_showing (alone ts) after) → AreLayersSet s ls afresh before (state_showing (texts_show others ts) after)
  set_among ls afresh text set =
      set_reshown (alone ts) (texts_show others ts) after distinct s ls afresh before (λ q e p. same_text others ts after.desk.font q p (text q e)) set

  pub redrawn_among : (q : Part) → is_of Texts q ≡ true → IsLayerRedrawn s q before (state_showing (alone ts) after) → IsLayerRedrawn s q before (state_showing (texts_show others ts) after)
  redrawn_among q text redrawn =
      redrawn_reshown (alone ts) (texts_show others ts) after distinct s q before (λ p. same_text others ts after.desk.font q p text) redrawn
