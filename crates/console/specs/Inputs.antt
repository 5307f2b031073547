-- A line that comes byte by byte.
use Rattle.std.specs.Prelude.{◌≡◌, ℕ, Bool, true, false, cond, List, [], ◌∷◌, ◌++◌, length, take, IsUtf8, nat_lt, ◌==◌}
use Rattle.arrayvec.specs.ArrayVec.{array_vec_len}
use Rattle.words.specs.declared.LineFault.{LineFault}
use Rattle.words.specs.declared.LineFault.TheVariants.{TooLong, NotText, UnknownCommand, Form, Number, SideWord, Range, Spent}
use Rattle.console.specs.declared.input.LineBuffer.{LineBuffer}

-- the bytes that are kept, 255 at most
abbrev pub held : LineBuffer → List ℕ
held b = take 255 b.bytes.items

-- more bytes came than are kept
abbrev pub is_long : LineBuffer → Bool
is_long b = array_vec_len b.bytes == 256

-- a byte comes: it is kept where fewer than 255 are, else the line is too long
pub record Pushed (before : LineBuffer) (byte : ℕ) (after : LineBuffer) : Type 0 where
  pub bytes : held after ≡ cond (nat_lt (length (held before)) 255) (held before ++ byte ∷ []) (held before)
  pub long : is_long after ≡ cond (nat_lt (length (held before)) 255) (is_long before) true

-- why a line is no text: more bytes came than are kept, or they are not UTF-8
abbrev pub NoText : LineBuffer → LineFault → Type 0
NoText b TooLong = is_long b ≡ true
NoText b NotText = (is_long b ≡ false) × (IsUtf8 (held b) → ⊥)
NoText b UnknownCommand = ⊥
NoText b (Form what) = ⊥
NoText b (Number what) = ⊥
NoText b SideWord = ⊥
NoText b (Range what) = ⊥
NoText b Spent = ⊥
