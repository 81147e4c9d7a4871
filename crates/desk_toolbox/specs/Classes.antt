-- Windows of two classes: those that float stand in front of the others, and none of them is active.
use Rattle.std.specs.Prelude.{◌≡◌, ℕ, Bool, false, List, [], ◌∷◌, map, All, Option, Some, IfSome}
use Rattle.std.specs.Option.{option_map}
use Rattle.vis_update.specs.Records.{WindowRecord, is_floating}
use Rattle.window_mgr.specs.Finding.{record_with}

-- of these truth values, true ones stand in front
abbrev pub AreTrueFirst : List Bool → Type 0
AreTrueFirst [] = Unit {0}
AreTrueFirst (b ∷ bs) = (b ≡ false → All (λ c. c ≡ false) bs) × AreTrueFirst bs

-- the windows that float stand in front of the others
abbrev pub AreClassed : List WindowRecord → Type 0
AreClassed ws = AreTrueFirst (map is_floating ws)

-- the window of this serial is there, and floats or does not
abbrev pub IsOfClass : Bool → ℕ → List WindowRecord → Type 0
IsOfClass floating s ws = option_map is_floating (record_with s ws) ≡ Some floating

-- no window is meant, or an ordinary one of these
abbrev pub IsOrdinary : Option ℕ → List WindowRecord → Type 0
IsOrdinary o ws = IfSome o (λ s. IsOfClass false s ws)
