-- A record in its sector.
use Rattle.std.specs.Prelude.{ℕ, ◌-◌, ◌^◌, Bool, List, ◌++◌, length, replicate, ◌==◌, nat_lt}
use Rattle.std.specs.List.{list_all}

-- bs, and zeros up to n bytes
abbrev pub filled_up : ℕ → List ℕ → List ℕ
filled_up n bs = bs ++ replicate (n - length bs) 0

-- a record in its sector: zeros up to 512 bytes
abbrev pub padded : List ℕ → List ℕ
padded bs = filled_up 512 bs

-- each byte is 0
abbrev pub zeros : List ℕ → Bool
zeros bs = list_all (λ b. b == 0) bs

-- n has room in w bytes
abbrev pub fits_in : ℕ → ℕ → Bool
fits_in w n = nat_lt n (256 ^ w)
