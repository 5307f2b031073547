-- The first in rank, and the two orders by a pair of numbers.
use Rattle.std.specs.Prelude.{◌≡◌, ℕ, ◌<◌, Bool, true, false, ◌&&◌, ◌||◌, List, length, ◌==◌, nat_lt, slice_index_or}

-- the first in rank of xs stands at place i
pub record First {X K : Type 0} (earlier : K → K → Bool) (key : X → K) (xs : List X) (i : ℕ) : Type 0 where
  -- it is one of them
  pub inside : i < length xs
  -- none stands before it
  pub none_before : (k : ℕ) (d : X) → k < length xs → earlier (key (slice_index_or xs k d)) (key (slice_index_or xs i d)) ≡ false
  -- whoever else none stands before has the same ranked fields
  pub only : (k : ℕ) (d : X) → k < length xs → earlier (key (slice_index_or xs i d)) (key (slice_index_or xs k d)) ≡ false → key (slice_index_or xs k d) ≡ key (slice_index_or xs i d)
  -- of such equals it is the one that stands first in the list
  pub earliest : (k : ℕ) (d : X) → k < i → earlier (key (slice_index_or xs i d)) (key (slice_index_or xs k d)) ≡ true

-- the smaller first number stands before, then the smaller second
abbrev pub low_first : ℕ × ℕ → ℕ × ℕ → Bool
low_first a b = nat_lt a.0 b.0 || (a.0 == b.0 && nat_lt a.1 b.1)

-- the larger first number stands before, then the smaller second
abbrev pub high_first : ℕ × ℕ → ℕ × ℕ → Bool
high_first a b = nat_lt b.0 a.0 || (a.0 == b.0 && nat_lt a.1 b.1)
