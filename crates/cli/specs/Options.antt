-- The options among the words of the command line. Assumes nothing.
use Rattle.std.specs.Prelude.{◌≡◌, ◌≢◌, ◌⊎◌, ◌+◌, ℕ, Bool, true, false, not, List, [], ◌∷◌, length, Some, None, Option, cond, string_bytes}
use Rattle.std.specs.List.{list_any, filter}
use Rattle.std.specs.Str.{bytes_eq}
use denote.Ref.{Bor}
use Rattle.cli.specs.declared.faults.WordFault.{WordFault}
use Rattle.cli.specs.declared.faults.WordFault.TheVariants as word

-- this word is told as one that may not stand there; or memory gave out
abbrev pub TellsUnknown : List ℕ → WordFault → Type 0
TellsUnknown w (word.Unknown s) = string_bytes s ≡ w
TellsUnknown w word.NoMemory = Unit {0}
TellsUnknown w e = ⊥

abbrev pub TellsTwice : List ℕ → WordFault → Type 0
TellsTwice w (word.Twice s) = string_bytes s ≡ w
TellsTwice w word.NoMemory = Unit {0}
TellsTwice w e = ⊥

abbrev pub TellsNoValue : List ℕ → WordFault → Type 0
TellsNoValue w (word.NoValue s) = string_bytes s ≡ w
TellsNoValue w word.NoMemory = Unit {0}
TellsNoValue w e = ⊥

-- the value of the first pair with this name
abbrev pub value_in : List ℕ → List (Bor (List ℕ)) → Option (Bor (List ℕ))
value_in name [] = None
value_in name (w ∷ []) = None
value_in name (w ∷ (v ∷ ws)) = cond (bytes_eq w.now name) (Some v) (value_in name ws)

-- the word is one of these
abbrev pub named : List ℕ → List (Bor (List ℕ)) → Bool
named word names = list_any (λ name. bytes_eq name.now word) names

-- pairs of one of these names and a value, each name once
abbrev pub Options : List (Bor (List ℕ)) → List (Bor (List ℕ)) → Type 0
Options names [] = Unit {0}
Options names (w ∷ []) = ⊥
Options names (w ∷ (v ∷ ws)) = (named w.now names ≡ true) × (value_in w.now ws ≡ None) × Options names ws

-- what is told of words that are none: of the first word that is no name, of a name without a value, or of one that comes again
abbrev pub WrongOptions : List (Bor (List ℕ)) → List (Bor (List ℕ)) → WordFault → Type 0
WrongOptions names [] e = ⊥
WrongOptions names (w ∷ []) e = ((named w.now names ≡ false) × TellsUnknown w.now e) ⊎ ((named w.now names ≡ true) × TellsNoValue w.now e)
WrongOptions names (w ∷ (v ∷ ws)) e =
    ((named w.now names ≡ false) × TellsUnknown w.now e) ⊎ (((value_in w.now ws ≢ None) × TellsTwice w.now e) ⊎ WrongOptions names ws e)

-- the words that are not this one
abbrev pub others : List ℕ → List (Bor (List ℕ)) → List (Bor (List ℕ))
others flag words = filter (λ w. not (bytes_eq w.now flag)) words

-- a flag is taken out of words where it stands once at most, and whether it stood there
abbrev pub SplitOff : List ℕ → List (Bor (List ℕ)) → List (Bor (List ℕ)) → Bool → Type 0
SplitOff flag words rest true = (rest ≡ others flag words) × (length words ≡ length rest + 1)
SplitOff flag words rest false = (rest ≡ others flag words) × (length words ≡ length rest)
