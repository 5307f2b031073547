-- The lines of an input, as they are handed on.
use Rattle.std.specs.Prelude.{◌≡◌, ◌+◌, ◌<◌, ◌^◌, ◌-◌, ℕ, Bool, List, [], ◌∷◌, ◌++◌, length, take, nat_lt, cond, ◌==◌, Option}
use Rattle.std.specs.List.{position_or_len, FoldsTo}
use Rattle.std.specs.Io.KnownBytes.{Consumes, IsAtEnd}
use denote.Ref.{Bor}
use Rattle.console.specs.declared.input.LineBuffer.{LineBuffer}
use Rattle.console.specs.Inputs.{held, is_long, Pushed}
use Rattle.console.specs.declared.input.lines.Piece.{Piece}
use Rattle.console.specs.declared.input.lines.Piece.TheVariants.{End, Part, Rest}

abbrev pub is_newline : ℕ → Bool
is_newline b = b == 10

-- where the first newline stands, or how many bytes there are
abbrev pub first_newline : List ℕ → ℕ
first_newline bytes = position_or_len is_newline bytes

-- a line that the end of the input ends: none where it is empty
abbrev pub last_line : List ℕ → List (List ℕ)
last_line [] = []
last_line (x ∷ line) = (x ∷ line) ∷ []

-- the lines of an input, of which `part` came before: each ends at a newline, but the last
abbrev pub lines : List ℕ → List ℕ → List (List ℕ)
lines part [] = last_line part
lines part (x ∷ xs) = cond (is_newline x) (part ∷ lines [] xs) (lines (part ++ x ∷ []) xs)

-- how many newlines there are
abbrev pub newlines : List ℕ → ℕ
newlines [] = 0
newlines (x ∷ xs) = cond (is_newline x) (newlines xs + 1) (newlines xs)

-- a buffer has this line: its first 255 bytes, and whether more came
pub record Has (b : LineBuffer) (line : List ℕ) : Type 0 where
  pub bytes : held b ≡ take 255 line
  pub long : is_long b ≡ nat_lt 255 (length line)

-- what a reader had, where that is known, what of it came to the line, and what it has then: nothing of nothing; bytes without a newline; or
-- the bytes up to the first newline, which goes with them
abbrev pub Took : Option (List ℕ) → LineBuffer → Piece → LineBuffer → Option (List ℕ) → Type 0
Took had before End after has = IsAtEnd had × (after ≡ before)
Took had before Part after has =
    (bytes : List ℕ) × (0 < length bytes) × (first_newline bytes ≡ length bytes) × FoldsTo Pushed before bytes after × Consumes had has bytes
Took had before Rest after has =
    (bytes : List ℕ) × (first_newline bytes < length bytes) × FoldsTo Pushed before (take (first_newline bytes) bytes) after
    × Consumes had has (take (first_newline bytes + 1) bytes)

module _ {F : Type 0} (Step : F → ℕ → Bor LineBuffer → F → Type 0) where
  -- lines are handed on one after the other, each under the number that follows n and in a buffer that has it
  abbrev pub Handed : ℕ → List (List ℕ) → F → F → Type 0
  Handed n [] f g = f ≡ g
  Handed n (l ∷ ls) f g = (b : Bor LineBuffer) × Has b.now l × ((h : F) × Step f (n + 1) b h × Handed (n + 1) ls h g)

  -- all lines of an input are handed on, the first under number 1; it has no more bytes than can be counted
  abbrev pub HandedAll : F → List ℕ → Type 0
  HandedAll f bytes = length bytes < 2 ^ 64 - 1 → ((g : F) × Handed 0 (lines [] bytes) f g)

-- how many newlines an input has
abbrev pub Counted : ℕ → List ℕ → Type 0
Counted n bytes = length bytes < 2 ^ 64 - 1 → n ≡ newlines bytes
