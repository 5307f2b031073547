-- Lines without words.
use Rattle.std.specs.Prelude.{◌≡◌, ◌⊎◌, ℕ, List, ◌∷◌}
use Rattle.std.specs.Char.{is_not_whitespace}
use Rattle.std.specs.Str.{trim}
use Rattle.std.specs.Str.Iter.{NoAsciiPasses}

-- nothing stands in the line but white (the library says so of ASCII alone), or its first letter is #
abbrev pub Wordless : List ℕ → Type 0
Wordless line = NoAsciiPasses is_not_whitespace (trim line) ⊎ ((rest : List ℕ) × (trim line ≡ 35 ∷ rest))
