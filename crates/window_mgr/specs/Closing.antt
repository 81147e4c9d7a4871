-- What the end of a desk does to the stock.
use Rattle.std.specs.Prelude.{List}
use Rattle.def_iface.specs.WindowMeaning.{WindowDefinition, WindowLoan, SameLook}
use Rattle.def_iface.specs.Closing as closing
use Rattle.def_iface.specs.WindowSlots.{WindowSlot}
use Rattle.vis_update.specs.Records.{WindowRecord}

-- a window's definition, and its slot
abbrev pub loan_of : WindowRecord → WindowLoan
loan_of w = record { definition = w.definition; slot = w.slot }

-- the window's slot is there, with its definition, which is closed
abbrev pub IsClosedAt : List WindowSlot → WindowRecord → Type 0
IsClosedAt = closing.IsClosedAt (λ (d : WindowDefinition). d.stage) SameLook loan_of

-- the definition was closed and put into its slot, which was empty, and every other slot is as it was
abbrev pub IsShut : WindowLoan → List WindowSlot → List WindowSlot → Type 0
IsShut = closing.IsShut (λ (d : WindowDefinition). d.stage) SameLook

-- the desk's windows, which are these, were disposed of: every slot has a definition that no desk uses
abbrev pub IsClosed : List WindowRecord → List WindowSlot → List WindowSlot → Type 0
IsClosed = closing.AreAllClosed (λ (d : WindowDefinition). d.stage) SameLook loan_of
