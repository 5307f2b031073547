-- The two orders by a pair of numbers keep the law of a rank.
use Rattle.std.proofs.Common.{◌≡◌, ℕ, true, false, rules}
use Rattle.rank.specs.Ranked.{low_first, high_first}

pub low_first_irreflexive : (a : ℕ × ℕ) → low_first a a ≡ false
low_first_irreflexive = search rules

pub low_first_chains : (a b c : ℕ × ℕ) → low_first a b ≡ true → low_first b c ≡ true → low_first a c ≡ true
low_first_chains = search rules

pub low_first_total : (a b : ℕ × ℕ) → low_first a b ≡ false → low_first b a ≡ false → a ≡ b
low_first_total = search rules

pub high_first_irreflexive : (a : ℕ × ℕ) → high_first a a ≡ false
high_first_irreflexive = search rules

pub high_first_chains : (a b c : ℕ × ℕ) → high_first a b ≡ true → high_first b c ≡ true → high_first a c ≡ true
high_first_chains = search rules

pub high_first_total : (a b : ℕ × ℕ) → high_first a b ≡ false → high_first b a ≡ false → a ≡ b
high_first_total = search rules
