-- The kinds of records by their numbers.
use Rattle.std.specs.Prelude.{◌≡◌, ℕ, ◌≢◌, Result, MatchResult}
use Rattle.records.specs.declared.kinds.NoKind.{NoKind}
use Rattle.records.specs.declared.kinds.RecordKind.{RecordKind}
use Rattle.records.specs.declared.kinds.RecordKind.TheVariants.{Page, Header, Enter, Cancel, Cross}

abbrev pub kind_number : RecordKind → ℕ
kind_number Page = 1
kind_number Header = 2
kind_number Enter = 11
kind_number Cancel = 12
kind_number Cross = 13

-- the kind with number n, or n where no kind has it
abbrev pub IsKind : ℕ → Result RecordKind NoKind → Type 0
IsKind n r = MatchResult r (λ k. kind_number k ≡ n) (λ e. (e.0 ≡ n) × ((k : RecordKind) → kind_number k ≢ n))
