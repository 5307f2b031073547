-- The words of the markets. Assumes nothing.
use Rattle.std.specs.Prelude.{ℕ, List, ◌≡◌, codes}
use Rattle.play_words.specs.declared.script.MarketKind.{MarketKind}
use Rattle.play_words.specs.declared.script.MarketKind.TheVariants as kind
use Rattle.play_words.specs.declared.faults.PlayFault.{PlayFault}
use Rattle.play_words.specs.declared.faults.PlayFault.TheVariants.{Form}

abbrev pub market_word : MarketKind → List ℕ
market_word kind.Book = codes "book"
market_word kind.Call = codes "call"

-- the word is no market's
abbrev pub NoMarketWord : List ℕ → Type 0
NoMarketWord w = (m : MarketKind) → w ≡ market_word m → ⊥

-- What a word that names no market is answered: which words were expected.
abbrev pub AsksMarket : PlayFault → Type 0
AsksMarket (Form what) = what.now ≡ codes "market book|call"
AsksMarket _ = ⊥
