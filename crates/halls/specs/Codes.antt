-- The markets by the codes on their snapshots. Assumes nothing.
use Rattle.std.specs.Prelude.{◌≡◌, ℕ}
use Rattle.play_words.specs.declared.script.MarketKind.{MarketKind}
use Rattle.play_words.specs.declared.script.MarketKind.TheVariants as kind

abbrev pub code_of : MarketKind → ℕ
code_of kind.Book = 1
code_of kind.Call = 2

-- the code is no market's
abbrev pub NoMarketOf : ℕ → Type 0
NoMarketOf code = (m : MarketKind) → code_of m ≡ code → ⊥
