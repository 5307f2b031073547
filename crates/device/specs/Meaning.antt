-- What a sector device means. Assumes nothing.
use Rattle.std.specs.Prelude.{◌≡◌, ℕ, ◌<◌, ◌≤◌, Bool, true, List, length}

-- what a sector reads as: its bytes, or torn
pub data Reading : Type 0 where
  bytes : List ℕ → Reading
  torn : Reading

-- a set of contents, given by a test
abbrev pub Contents : Type 0
Contents = Reading → Bool

infix 20 ◌∈◌
abbrev pub ◌∈◌ : Reading → Contents → Type 0
x ∈ S = S x ≡ true

-- the size in sectors, whether the device is lit (has power), what each sector reads as,
-- and for each sector the set of contents that a cut of the power may leave there.
-- Only sectors below the size count.
pub record Meaning : Type 0 where
  pub size : ℕ
  pub lit : Bool
  pub reads : ℕ → Reading
  pub may : ℕ → Contents

-- what every device keeps: a cut may leave what a sector reads as; a sector is 512 bytes; at most 65,536 sectors
pub record Lawful (m : Meaning) : Type 0 where
  pub among : (s : ℕ) → s < m.size → m.reads s ∈ m.may s
  pub whole : (s : ℕ) → s < m.size → (b : List ℕ) → bytes b ∈ m.may s → length b ≡ 512
  pub small : m.size ≤ 65536
