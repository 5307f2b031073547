-- Which plans are tried for writes that wait. Assumes nothing.
use Rattle.std.specs.Prelude.{ℕ, ◌+◌, ◌*◌, ◌/◌, ◌%◌, ◌^◌, min, zero, suc}

-- The plan that a number asks for: its base-3 digits, the lowest for the oldest write, are the fates 0 dropped, 1 kept and 2
-- torn; each becomes two bits.
abbrev pub fates : ℕ → ℕ → ℕ
fates zero i = 0
fates (suc writes) i = i % 3 + 4 * fates writes (i / 3)

-- how many plans are tried: all, but no more than the most
abbrev pub how_many : ℕ → ℕ → ℕ
how_many writes most = min (3 ^ writes) most

-- the number of the i-th of so many, which lie evenly among all
abbrev pub number_at : ℕ → ℕ → ℕ → ℕ
number_at writes count i = i * 3 ^ writes / count
