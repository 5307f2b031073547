-- A file that is not opened.
use Rattle.std.specs.Prelude.{◌≡◌, ℕ, List, ⊤}
use Rattle.std.specs.String.{string_bytes}
use Rattle.jobs.specs.declared.faults.JobFault.{JobFault}
use Rattle.jobs.specs.declared.faults.JobFault.TheVariants.{File, NoMemory}

-- the file of this name cannot be opened, and is told by its name; or there is no memory for the name
abbrev pub NotOpened : List ℕ → JobFault → Type 0
NotOpened name (File n e) = string_bytes n ≡ name
NotOpened name NoMemory = ⊤
NotOpened name _ = ⊥
