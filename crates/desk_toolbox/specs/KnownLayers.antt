-- Windows whose layers are controls', lists' and text records' alone.
use Rattle.std.specs.Prelude.{◌≡◌, Bool, true, ◌||◌, List, All}
use Rattle.desk_call.specs.declared.update.LayerKind.TheVariants.{Controls, Lists, Texts}
use Rattle.window_list.specs.declared.layer.Layer.{Layer}
use Rattle.window_paint.specs.Kinds.{is_of}
use Rattle.vis_update.specs.Records.{WindowRecord}

-- a layer of a control, of a list or of a text record
abbrev pub is_known : Layer → Bool
is_known l = is_of Controls l.part || (is_of Lists l.part || is_of Texts l.part)

-- each of these is one
abbrev pub AreKnown : List Layer → Type 0
AreKnown ls = All (λ l. is_known l ≡ true) ls

-- so are the layers of each of these windows
abbrev pub AreLayersKnown : List WindowRecord → Type 0
AreLayersKnown ws = All (λ w. AreKnown w.layers) ws
