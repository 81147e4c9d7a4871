-- Text records as layers of their windows.
use Rattle.std.specs.Prelude.{◌≡◌, List, [], ◌∷◌, ◌++◌}
use Rattle.std.specs.List.{AllZip, filter, remove}
use Rattle.std.specs.Option.{option_map_or}
use Rattle.tb_geom.specs.declared.point.Point.{Point}
use Rattle.tb_geom.specs.Pixels.{holds}
use Rattle.tb_geom.specs.Rects.{rect_holds}
use Rattle.desk_layers.specs.declared.part.Part.{Part}
use Rattle.desk_layers.specs.declared.part.Part.TheVariants as part
use Rattle.desk_call.specs.declared.update.LayerKind.TheVariants.{Texts}
use Rattle.text_record.specs.Placings.{box_of}
use Rattle.text_record.specs.Texts.{Record}
use Rattle.window_list.specs.declared.layer.Layer.{Layer}
use Rattle.window_list.specs.declared.layer.LayerShape.{LayerShape}
use Rattle.window_list.specs.Holders.{layer_index}
use Rattle.window_list.specs.LayerChanges.{reshaped}
use Rattle.window_paint.specs.Kinds.{is_of}
use Rattle.text_mgr.specs.TextDesks.{KeptText}

-- the shape is this record's: it is shown where the record is, and has the pixels of its box
pub record IsShapeOf (r : Record) (s : LayerShape) : Type 0 where
  pub shown : s.shown ≡ r.shown
  pub region : (p : Point) → holds s.region p ≡ rect_holds (box_of r.framed r.view) p
  pub bounds : s.bounds ≡ box_of r.framed r.view

-- the layer is this text record's
pub record IsLayerOf (t : KeptText) (l : Layer) : Type 0 where
  pub part : l.part ≡ part.Text t.serial
  pub shape : IsShapeOf t.kept (record { shown = l.shown; region = l.region; bounds = l.bounds })

-- the layers that are text records' are these records', from front to back the oldest first
abbrev pub AreTextLayersOf : List KeptText → List Layer → Type 0
AreTextLayersOf ts ls = AllZip IsLayerOf ts (filter (λ l. is_of Texts l.part) ls)

-- ---- layers of which one is changed; all others stay where they are

-- the layers, and behind them this one
abbrev pub with_last : Layer → List Layer → List Layer
with_last l ls = ls ++ l ∷ []

-- the layers, the one of this part so
abbrev pub with_shape_of : Part → LayerShape → List Layer → List Layer
with_shape_of q shape ls = option_map_or (λ i. reshaped shape i ls) (layer_index q ls) ls

-- the layers without the one of this part
abbrev pub without_part : Part → List Layer → List Layer
without_part q ls = option_map_or (λ i. remove ls i) (layer_index q ls) ls
