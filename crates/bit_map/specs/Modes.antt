-- The eight functions of a source bit and an old bit, their numbers and their names.
use Rattle.std.specs.Prelude.{ℕ, Bool, true, false, not, ◌&&◌, ◌||◌, List, codes}
use Rattle.bit_map.specs.declared.mode.Mode.{Mode}
use Rattle.bit_map.specs.declared.mode.Mode.TheVariants.{Copy, Or, Xor, Bic, NotCopy, NotOr, NotXor, NotBic}

-- the source bit
abbrev pub copy_bit : Bool → Bool → Bool
copy_bit s d = s

-- black where either is
abbrev pub or_bit : Bool → Bool → Bool
or_bit s d = s || d

-- black where just one is
abbrev pub xor_bit : Bool → Bool → Bool
xor_bit true d = not d
xor_bit false d = d

-- the old bit, cleared where the source is black
abbrev pub bic_bit : Bool → Bool → Bool
bic_bit s d = d && not s

-- the new bit, of the source bit s and the old bit d: the not-forms take the source the other way round
abbrev pub mode_bit : Mode → Bool → Bool → Bool
mode_bit Copy s d = copy_bit s d
mode_bit Or s d = or_bit s d
mode_bit Xor s d = xor_bit s d
mode_bit Bic s d = bic_bit s d
mode_bit NotCopy s d = copy_bit (not s) d
mode_bit NotOr s d = or_bit (not s) d
mode_bit NotXor s d = xor_bit (not s) d
mode_bit NotBic s d = bic_bit (not s) d

-- the number of the mode where the source is an image: srcCopy 0 .. notSrcBic 7
abbrev pub source_number : Mode → ℕ
source_number Copy = 0
source_number Or = 1
source_number Xor = 2
source_number Bic = 3
source_number NotCopy = 4
source_number NotOr = 5
source_number NotXor = 6
source_number NotBic = 7

-- the number of the mode where the source is a pattern: patCopy 8 .. notPatBic 15
abbrev pub pattern_number : Mode → ℕ
pattern_number Copy = 8
pattern_number Or = 9
pattern_number Xor = 10
pattern_number Bic = 11
pattern_number NotCopy = 12
pattern_number NotOr = 13
pattern_number NotXor = 14
pattern_number NotBic = 15

-- its name where the source is an image
abbrev pub source_name : Mode → List ℕ
source_name Copy = codes "srcCopy"
source_name Or = codes "srcOr"
source_name Xor = codes "srcXor"
source_name Bic = codes "srcBic"
source_name NotCopy = codes "notSrcCopy"
source_name NotOr = codes "notSrcOr"
source_name NotXor = codes "notSrcXor"
source_name NotBic = codes "notSrcBic"

-- its name where the source is a pattern
abbrev pub pattern_name : Mode → List ℕ
pattern_name Copy = codes "patCopy"
pattern_name Or = codes "patOr"
pattern_name Xor = codes "patXor"
pattern_name Bic = codes "patBic"
pattern_name NotCopy = codes "notPatCopy"
pattern_name NotOr = codes "notPatOr"
pattern_name NotXor = codes "notPatXor"
pattern_name NotBic = codes "notPatBic"
