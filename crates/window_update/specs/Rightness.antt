-- Which pixels of a window are right.
use Rattle.std.specs.Prelude.{◌≡◌, ℕ, Bool, true, false}
use Rattle.tb_geom.specs.declared.point.Point.{Point}
use Rattle.tb_geom.specs.Points.{PixelSet}
use Rattle.bit_map.specs.Bits.{Bits, bit}
use Rattle.desk_layers.specs.Desk.{on_screen}
use Rattle.desk_layers.specs.Owner.{owner}
use Rattle.desk_layers.specs.Scratch.{scratch}
use Rattle.window_mgr.specs.FullDesk.{FullState, layered_desk}
use Rattle.window_update.specs.Sets.{marked_in}

-- a set of pixels of a window is right: each of them that the window's content owns on the screen has the value that
-- painting from nothing gives
abbrev pub AreRight : ℕ → PixelSet → FullState → Type 0
AreRight s set state = let desk = layered_desk state.desk in
    (p : Point) → on_screen desk p ≡ true → marked_in s set state.desk (owner desk p) p ≡ true → state.image p ≡ scratch desk p

-- the answer to whether it is
abbrev pub IsJudgement : ℕ → PixelSet → FullState → Bool → Type 0
IsJudgement s set state true = AreRight s set state
IsJudgement s set state false = AreRight s set state → ⊥

-- the answer to whether two maps have the same bits in a set
abbrev pub IsAgreement : PixelSet → Bits → Bits → Bool → Type 0
IsAgreement set m n true = (p : Point) → set p ≡ true → bit m p ≡ bit n p
IsAgreement set m n false = (p : Point) × (set p ≡ true) × (bit m p ≡ bit n p → ⊥)
