-- What is told of a file that cannot be opened or made. Assumes nothing.
use Rattle.std.specs.Prelude.{◌≡◌, ◌≢◌, ℕ, List, ⊤}
use Rattle.std.specs.String.{string_bytes}
use Rattle.std.specs.declared.io.ErrorKind.{ErrorKind}
use Rattle.std.specs.declared.io.ErrorKind.TheVariants as kind
use Rattle.halls.specs.declared.faults.HallFault.{HallFault}
use Rattle.halls.specs.declared.faults.HallFault.TheVariants.{NoFile, NoFolder, Taken, File, NoMemory}

-- there is none, or one is there already, or else the system's error, of the file of this name; or there is no memory for the name
abbrev pub SaidOf : List ℕ → ErrorKind → HallFault → Type 0
SaidOf name k (NoFile n) = (k ≡ kind.NotFound) × (string_bytes n ≡ name)
SaidOf name k (Taken n) = (k ≡ kind.AlreadyExists) × (string_bytes n ≡ name)
SaidOf name k (File n e) = (k ≢ kind.NotFound) × (k ≢ kind.AlreadyExists) × (string_bytes n ≡ name)
SaidOf name k NoMemory = ⊤
SaidOf name k _ = ⊥

-- the same of a file that is to be made: where none is found, it has no folder
abbrev pub SaidOfMade : List ℕ → ErrorKind → HallFault → Type 0
SaidOfMade name k (NoFolder n) = (k ≡ kind.NotFound) × (string_bytes n ≡ name)
SaidOfMade name k (NoFile n) = ⊥
SaidOfMade name k fault = SaidOf name k fault
