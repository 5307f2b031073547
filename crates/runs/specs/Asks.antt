-- What a line of the input asks for. Assumes nothing.
use Rattle.std.specs.Prelude.{◌≡◌, ◌≢◌, ◌<◌, ◌⊎◌, ℕ, List, [], ◌∷◌, length, codes}
use Rattle.std.specs.List.{All}
use Rattle.std.specs.Str.{trim}
use Rattle.words.specs.Spellings.{Spells}
use Rattle.jobs.specs.Lines.{Wordless}
use Rattle.runs.specs.declared.asks.Ask.{Ask}
use Rattle.runs.specs.declared.asks.Ask.TheVariants.{Nothing, Commit, Take}

-- by its words: none is a remark, `commit` is to write what waits, and else they spell a command
abbrev pub AskedBy : List (List ℕ) → Ask → Type 0
AskedBy words Nothing = words ≡ []
AskedBy words Commit = words ≡ codes "commit" ∷ []
AskedBy words (Take c) = Spells words c

-- A blank line is to write what waits. Of another one some words decide, of which none is empty; a line of no words is a remark.
abbrev pub Asks : List ℕ → Ask → Type 0
Asks line ask = ((trim line ≡ []) × (ask ≡ Commit)) ⊎ ((trim line ≢ []) × ((words : List (List ℕ)) × All (λ word. 0 < length word) words × (words ≡ [] → Wordless line) × AskedBy words ask))
