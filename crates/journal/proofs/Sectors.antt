-- Pages that are less than a journal apart lie in different sectors.
use Rattle.std.proofs.Common.{◌≡◌, ℕ, suc, ◌+◌, ◌-◌, ◌*◌, ◌/◌, ◌%◌, ◌<◌, ◌≤◌, sym, ⊎_elim, mul-le-mul_left, arith}
use native.Mathlib.Nat.{mod-add-div, lt_of_mul-lt-mul_left}
use Rattle.std.proofs.lemmas.Bool.{cases_lt}
use Rattle.journal.specs.Places.{journal, PagesApart}

-- what has one remainder and is less than j apart is one number
one_remainder : (j a b : ℕ) → a ≤ b → b < a + j → a % j ≡ b % j → a ≡ b
one_remainder j a b le lt e =
    let qa = mod-add-div a j in
    let qb = mod-add-div b j in
    let near : j * (b / j) < j * suc (a / j) = omega arith in
    let k : b / j ≤ a / j = (let h = lt_of_mul-lt-mul_left j near in omega arith) in
    let m = mul-le-mul_left j k in
    omega arith

pub apart : (size : ℕ) → PagesApart size
apart size c p q lp hp lq hq e =
    let same : (p - 1) % journal size ≡ (q - 1) % journal size = omega arith in
    ⊎_elim
    (λ h. let k = one_remainder (journal size) (p - 1) (q - 1) (omega arith) (omega arith) same in omega arith)
    (λ h. let k = one_remainder (journal size) (q - 1) (p - 1) (omega arith) (omega arith) (sym same) in omega arith)
    (cases_lt p q)
