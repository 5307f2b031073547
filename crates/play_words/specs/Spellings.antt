-- The words that spell a call. Assumes nothing.
use Rattle.std.specs.Prelude.{◌≡◌, ℕ, ◌+◌, ◌*◌, ◌^◌, ◌<◌, ◌≤◌, ◌⊎◌, List, [], ◌∷◌, vec_items, codes}
use Rattle.records.specs.Commands.{encoded}
use Rattle.records.specs.declared.commands.Command.{Command}
use Rattle.words.specs.Spellings.{Writes, Spells}
use Rattle.runner.specs.declared.script.Call.{Call}
use Rattle.runner.specs.declared.script.Call.TheVariants.{Stage, Write, Sync, Deliver, Shelve, Snapshot, Restart, Open, Replay}

-- a hex digit, 0 to 9, a to f or A to F, and its number
abbrev pub SpellsDigit : ℕ → ℕ → Type 0
SpellsDigit x n = ((48 ≤ x) × (x ≤ 57) × (x ≡ n + 48)) ⊎ (((97 ≤ x) × (x ≤ 102) × (x ≡ n + 87)) ⊎ ((65 ≤ x) × (x ≤ 70) × (x ≡ n + 55)))

-- two hex digits, the higher first, and the byte that they are
abbrev pub SpellsByte : ℕ → ℕ → ℕ → Type 0
SpellsByte x y b = (h : ℕ) × (l : ℕ) × SpellsDigit x h × SpellsDigit y l × (b ≡ 16 * h + l)

-- hex digits, two a byte
abbrev pub SpellsBytes : List ℕ → List ℕ → Type 0
SpellsBytes [] [] = Unit {0}
SpellsBytes [] (b ∷ bs) = ⊥
SpellsBytes (x ∷ []) bs = ⊥
SpellsBytes (x ∷ (y ∷ w)) [] = ⊥
SpellsBytes (x ∷ (y ∷ w)) (b ∷ bs) = SpellsByte x y b × SpellsBytes w bs

-- the words after "stage": a command's, whose record the bytes are, or "hex" and the digits that spell them
abbrev pub Stages : List (List ℕ) → List ℕ → Type 0
Stages ws bs = ((c : Command) × Spells ws c × (bs ≡ encoded c)) ⊎ ((w : List ℕ) × (ws ≡ codes "hex" ∷ (w ∷ [])) × SpellsBytes w bs)

-- the words for the length of the list that is lent: none for 1,024
abbrev pub Lends : List (List ℕ) → ℕ → Type 0
Lends [] n = n ≡ 1024
Lends (w ∷ []) n = Writes w n
Lends (w ∷ (v ∷ ws)) n = ⊥

-- they are of no length that fits 64 bits
abbrev pub LendsNone : List (List ℕ) → Type 0
LendsNone ws = (n : ℕ) → n < 2 ^ 64 → Lends ws n → ⊥

abbrev pub SpellsCall : List (List ℕ) → Call → Type 0
SpellsCall ws (Stage v) = (rest : List (List ℕ)) × (ws ≡ codes "stage" ∷ rest) × Stages rest (vec_items v)
SpellsCall ws Write = ws ≡ codes "write" ∷ []
SpellsCall ws (Sync ticket room) = (t : List ℕ) × (rest : List (List ℕ)) × (ws ≡ codes "sync" ∷ (t ∷ rest)) × Writes t ticket × Lends rest room
SpellsCall ws (Deliver n) = (t : List ℕ) × (ws ≡ codes "deliver" ∷ (t ∷ [])) × Writes t n
SpellsCall ws (Shelve n) = (t : List ℕ) × (ws ≡ codes "shelve" ∷ (t ∷ [])) × Writes t n
SpellsCall ws Snapshot = ws ≡ codes "snapshot" ∷ []
SpellsCall ws Restart = ws ≡ codes "restart" ∷ []
SpellsCall ws Open = ws ≡ codes "open" ∷ []
SpellsCall ws (Replay room) = (rest : List (List ℕ)) × (ws ≡ codes "replay" ∷ rest) × Lends rest room
