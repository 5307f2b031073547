-- Powers of 3 and 4 up to the ninth.
use Rattle.std.proofs.Common.{ℕ, ◌+◌, ◌*◌, ◌^◌, ap, ◌∙◌, ◌<◌, ◌≤◌, ◌≡◌, arith}
use Rattle.std.proofs.lemmas.Grind.{pow_more}
use Rattle.std.proofs.Math.Nat.{pow-le-pow_right, one-le-pow}

pub three_small : (w : ℕ) → w ≤ 9 → 3 ^ w < 20000
three_small w h = let k : 3 ^ w ≤ 3 ^ 9 = pow-le-pow_right (omega arith) h in omega arith

pub three_some : (w : ℕ) → 1 ≤ 3 ^ w
three_some w = one-le-pow w 3 (omega arith)

pub four_small : (w : ℕ) → w ≤ 8 → 4 ^ w < 100000
four_small w h = let k : 4 ^ w ≤ 4 ^ 8 = pow-le-pow_right (omega arith) h in omega arith

pub four_step : (w v r d : ℕ) → w ≡ v + 1 → r < 4 ^ v → d < 3 → d + 4 * r < 4 ^ w
four_step w v r d e h k = let p : 4 ^ w ≡ 4 ^ v * 4 = ap (λ n. 4 ^ n) e ∙ pow_more 4 v in omega (arith, p, h, k)
