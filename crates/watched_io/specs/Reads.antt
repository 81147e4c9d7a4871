-- What a read gives, and how many reads a run may make.
use Rattle.std.specs.Prelude.{◌≡◌, ◌⊎◌, ℕ, ◌+◌, ◌<◌, Bool, true, false, List, length, take, Option, IfSome, Result, Ok, Err}
use Rattle.std.specs.Io.KnownBytes.{Consumes, IsAtEnd, Keeps}
use Rattle.tb_geom.specs.declared.refusal.Refusal.{Refusal}
use Rattle.tb_geom.specs.declared.refusal.Refusal.TheVariants.{NoMemory, ReadFault}

-- the end of an input comes within so many reads
abbrev pub most_reads : ℕ
most_reads = 1000000

-- each read is offered so many bytes
abbrev pub read_room : ℕ
read_room = 4096

-- a reader's side of a run: the bytes that reads will give from here on, where they are known, whether one of its reads
-- failed, whether one came to the end of the input, and how many there were
pub record Input : Type 0 where
  pub remaining : Option (List ℕ)
  pub has_failed : Bool
  pub has_ended : Bool
  pub reads : ℕ

-- no read failed yet, and none came to the end
pub record IsOpen (input : Input) : Type 0 where
  pub unfailed : input.has_failed ≡ false
  pub unended : input.has_ended ≡ false

-- a read gave these bytes, none at the end alone
pub record Gave (old new : Input) (bytes : List ℕ) : Type 0 where
  pub consumed : Consumes old.remaining new.remaining bytes
  pub none : length bytes ≡ 0 → IsAtEnd new.remaining × (new.has_ended ≡ true)
  pub some : 0 < length bytes → new.has_ended ≡ old.has_ended
  pub quiet : new.has_failed ≡ old.has_failed
  pub counted : new.reads ≡ old.reads + 1

-- a read failed, and gave nothing
pub record Failed (old new : Input) : Type 0 where
  pub kept : Keeps old.remaining new.remaining
  pub failed : new.has_failed ≡ true
  pub unended : new.has_ended ≡ old.has_ended
  pub counted : new.reads ≡ old.reads + 1

-- a call that reads into a buffer with room: at Ok it gave as many bytes as it says, and Err, which is ReadFault, comes
-- only of a read that failed
abbrev pub Reads : Input → Input → Result ℕ Refusal → List ℕ → Type 0
Reads old new (Ok n) buffer = Gave old new (take n buffer)
Reads old new (Err e) buffer = (e ≡ ReadFault) × Failed old new

-- the reader came to the end of its input, and gave all of it
pub record IsEntire (input rest : Input) (bytes : List ℕ) : Type 0 where
  pub read : Consumes input.remaining rest.remaining bytes
  pub whole : IfSome input.remaining (λ all. all ≡ bytes)
  pub ended : rest.has_ended ≡ true

-- of bytes of which this is said, the first so many are kept
abbrev pub IsKeptOf : ℕ → (List ℕ → Type 0) → List ℕ → Type 0
IsKeptOf most said kept = (all : List ℕ) × said all × (kept ≡ take most all)

-- a read failed, or there were as many as there may be and none came to the end
abbrev pub IsCutOff : Input → Type 0
IsCutOff rest = (rest.has_failed ≡ true) ⊎ ((rest.reads ≡ most_reads) × (rest.has_ended ≡ false))

-- why reading goes no further: ReadFault comes where the input is cut off, and NoMemory where further reads were allowed
abbrev pub IsStuck : Input → Refusal → Type 0
IsStuck rest ReadFault = IsCutOff rest
IsStuck rest NoMemory = IsOpen rest × (rest.reads < most_reads)
IsStuck rest _ = ⊥

-- why a call that reads all of an input does not give it: it read a front of that, and goes no further
pub record IsNotHad (input rest : Input) (e : Refusal) : Type 0 where
  pub front : List ℕ
  pub read : Consumes input.remaining rest.remaining front
  pub why : IsStuck rest e
