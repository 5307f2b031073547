use Rattle.std.proofs.Common.{ℕ, ◌+◌, ◌-◌, ◌≤◌, sym, arith, true≢false}
use Rattle.std.proofs.lemmas.List.Elements.{All-contains}
use Rattle.audit.specs.Delivered.{Covers}
use Rattle.protocol.specs.declared.tokens.ReceiptNumbers.{ReceiptNumbers}
use Rattle.std.specs.List.{Contains}
use native.Mathlib.Decide.{dec_le}
use Rattle.audit.proofs.covers.is_covered.Goals as goal

-- the next notice lies in none
pub returns-in_default : goal.returns-in_default
returns-in_default c = (
  λ e. absurd (true≢false (sym e)),
  λ k. let (r, m, h) = k c.loop-next.next c.loop-next.invariant.0 c.loop-next-test.true in absurd (All-contains (λ r. Covers c.loop-next.next r → ⊥) c.args.receipts.now r c.in_default.ensures m h),
)

pub loop-next-preserved : goal.loop-next-preserved
loop-next-preserved c = (omega arith, λ n l u. go n l u (dec_le c.loop-next.next n))
  where
    go : (n : ℕ) → 1 ≤ n → n ≤ c.last_notice-next.result + 1 - 1 → Dec (c.loop-next.next ≤ n) → (r : ReceiptNumbers) × Contains c.args.receipts.now r × Covers n r
    go n l u (yes k) = let e = c.last_notice-next.ensures.value in (c.in-Some.receipt.now, c.in-Some.ensures.0, (omega (arith, k, c.in-Some.ensures.1.0), omega (arith, u, e)))
    go n l u (no k) = c.loop-next.invariant.1 n l (omega (arith, k))
