-- A body in three sectors.
use Rattle.std.specs.Prelude.{ℕ, ◌*◌, List, take, drop}

-- the i-th 512 bytes
abbrev pub piece : List ℕ → ℕ → List ℕ
piece b i = take 512 (drop (512 * i) b)
