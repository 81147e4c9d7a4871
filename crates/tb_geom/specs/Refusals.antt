-- The name and the number of each refusal, and which of several is told.
use Rattle.std.specs.Prelude.{ℕ, ◌+◌, ◌==◌, Bool, true, ◌&&◌, if◌then◌else◌, nat_le, List, [], ◌∷◌, Option, None, Some, codes}
use Rattle.tb_geom.specs.declared.refusal.Refusal.{Refusal}
use Rattle.tb_geom.specs.declared.refusal.Refusal.TheVariants.{NoMemory, NoSuchWindow, NoSuchControl, NoSuchMenu, NoSuchList, NoSuchItem, NoSuchCell, OutOfRange, TooMany, TooLong, Busy, NotBusy, BadFont, BadRegion, BadSyntax, NoDefinition, StalePixels, ReadFault, WriteFault, NoSuchName, NoSuchText}

abbrev pub name_of : Refusal → List ℕ
name_of NoMemory = codes "NoMemory"
name_of NoSuchWindow = codes "NoSuchWindow"
name_of NoSuchControl = codes "NoSuchControl"
name_of NoSuchMenu = codes "NoSuchMenu"
name_of NoSuchList = codes "NoSuchList"
name_of NoSuchItem = codes "NoSuchItem"
name_of NoSuchCell = codes "NoSuchCell"
name_of OutOfRange = codes "OutOfRange"
name_of TooMany = codes "TooMany"
name_of TooLong = codes "TooLong"
name_of Busy = codes "Busy"
name_of NotBusy = codes "NotBusy"
name_of BadFont = codes "BadFont"
name_of BadRegion = codes "BadRegion"
name_of BadSyntax = codes "BadSyntax"
name_of NoDefinition = codes "NoDefinition"
name_of StalePixels = codes "StalePixels"
name_of ReadFault = codes "ReadFault"
name_of WriteFault = codes "WriteFault"
name_of NoSuchName = codes "NoSuchName"
name_of NoSuchText = codes "NoSuchText"

abbrev pub number_of : Refusal → ℕ
number_of NoMemory = 1
number_of NoSuchWindow = 2
number_of NoSuchControl = 3
number_of NoSuchMenu = 4
number_of NoSuchList = 5
number_of NoSuchItem = 6
number_of NoSuchCell = 7
number_of OutOfRange = 8
number_of TooMany = 9
number_of TooLong = 10
number_of Busy = 11
number_of NotBusy = 12
number_of BadFont = 13
number_of BadRegion = 14
number_of BadSyntax = 15
number_of NoDefinition = 16
number_of StalePixels = 17
number_of ReadFault = 18
number_of WriteFault = 19
number_of NoSuchName = 20
number_of NoSuchText = 21

-- the written order: of several reasons to refuse a call, the one is told that stands first here. The others come from no
-- call, but from a font, from reading and from writing.
abbrev pub refusal_order : List Refusal
refusal_order =
    BadSyntax ∷ NoSuchName ∷ BadRegion ∷ Busy ∷ NotBusy
    ∷ NoSuchWindow ∷ NoSuchControl ∷ NoSuchList ∷ NoSuchText ∷ NoSuchCell ∷ NoSuchMenu ∷ NoSuchItem
    ∷ OutOfRange ∷ TooLong ∷ TooMany ∷ NoDefinition ∷ StalePixels ∷ NoMemory ∷ []

-- how many refusals of a list stand before this one
abbrev pub place_in : List Refusal → Refusal → ℕ
place_in [] e = 0
place_in (first ∷ rest) e = if number_of first == number_of e then 0 else place_in rest e + 1

-- the first does not come after the second in the written order
abbrev pub is_before : Refusal → Refusal → Bool
is_before e f = nat_le (place_in refusal_order e) (place_in refusal_order f)

-- the refusals are named in the written order
abbrev pub in_order : List Refusal → Bool
in_order [] = true
in_order (e ∷ []) = true
in_order (e ∷ f ∷ rest) = is_before e f && in_order (f ∷ rest)

-- of conditions with what is told where they hold, the first that holds
abbrev pub first_refusal : List (Bool × Refusal) → Option Refusal
first_refusal [] = None
first_refusal (c ∷ cs) = if c.0 then Some c.1 else first_refusal cs
