-- The words that spell a command.
use Rattle.std.specs.Prelude.{◌≡◌, ℕ, ◌^◌, ◌<◌, List, [], ◌∷◌, codes}
use Rattle.std.specs.Str.Parse.{IsNumeral, digits_value, without_leading_plus}
use Rattle.records.specs.declared.commands.Command.{Command}
use Rattle.records.specs.declared.commands.Command.TheVariants.{Enter, Cancel, Cross}
use Rattle.texts.specs.Texts.{side_word}

-- the text is a decimal numeral, with or without a plus, and n is its number
abbrev pub Writes : List ℕ → ℕ → Type 0
Writes bs n = IsNumeral 10 (without_leading_plus bs) × (digits_value 10 (without_leading_plus bs) ≡ n)

-- the words after "enter", and after "cancel", are those of the command
abbrev pub Enters : List ℕ → List ℕ → List ℕ → List ℕ → Command → Type 0
Enters a w b d (Enter m s p l) = Writes a m.0 × (w ≡ side_word s) × Writes b p.0 × Writes d l.0
Enters a w b d (Cancel m o) = ⊥
Enters a w b d Cross = ⊥

abbrev pub Cancels : List ℕ → List ℕ → Command → Type 0
Cancels a b (Enter m s p l) = ⊥
Cancels a b (Cancel m o) = Writes a m.0 × Writes b o.0
Cancels a b Cross = ⊥

-- the words are those of the command: a verb, then its fields in order
abbrev pub Spells : List (List ℕ) → Command → Type 0
Spells ws (Enter m s p l) =
    (a : List ℕ) × (w : List ℕ) × (b : List ℕ) × (d : List ℕ) × (ws ≡ codes "enter" ∷ (a ∷ (w ∷ (b ∷ (d ∷ []))))) × Enters a w b d (Enter m s p l)
Spells ws (Cancel m o) = (a : List ℕ) × (b : List ℕ) × (ws ≡ codes "cancel" ∷ (a ∷ (b ∷ []))) × Cancels a b (Cancel m o)
Spells ws Cross = ws ≡ codes "cross" ∷ []

-- the numbers of a command fit the bits that they are kept in
abbrev pub Fits : Command → Type 0
Fits (Enter m s p l) = (m.0 < 2 ^ 32) × (p.0 < 2 ^ 32) × (l.0 < 2 ^ 32)
Fits (Cancel m o) = (m.0 < 2 ^ 32) × (o.0 < 2 ^ 64)
Fits Cross = Unit {0}

-- the words spell no command whose numbers fit
abbrev pub SpellsNone : List (List ℕ) → Type 0
SpellsNone ws = (c : Command) → Fits c → Spells ws c → ⊥
