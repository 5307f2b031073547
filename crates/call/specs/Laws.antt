-- The call auction keeps the laws of a market.
use Rattle.std.specs.Prelude.{◌≡◌, ℕ, zero, suc, ◌+◌, ◌-◌, ◌<◌, ◌≤◌, Bool, true, false, cond, List, [], ◌∷◌, length, ◌==◌, nat_lt, refl, Some}
use Rattle.std.proofs.lemmas.Bool.{and_from}
use Rattle.std.proofs.Common.{arith, rules}
use Rattle.records.specs.Commands.{good}
use Rattle.records.specs.declared.numbers.CommandNumber.{CommandNumber}
use Rattle.records.specs.declared.numbers.Price.{Price}
use Rattle.records.specs.declared.commands.Side.TheVariants.{Buy, Sell}
use Rattle.records.specs.declared.commands.Command.{Command}
use Rattle.records.specs.declared.commands.Command.TheVariants.{Enter, Cancel, Cross}
use Rattle.market.specs.declared.orders.Order.{Order}
use Rattle.market.specs.Lists.{all}
use Rattle.market.specs.Orders.{reduced}
use Rattle.market.specs.Resting.{Resting, nothing, sound, next, arriving, passed}
use Rattle.market.specs.Steps.{uncounted}
use Rattle.market.proofs.Sounds.{sound_fact, arriving_kept}
use Rattle.market.proofs.StepLaws.{stepped_keeps, stepped_few, stepped_counts, stepped_uncounts, uncounted_of, rested_few, rested_uncounted, withdrawn_few, withdrawn_uncounted, bounded as orders_bounded}
use Rattle.records.specs.LittleEndian.{Bytes}
use Rattle.body.specs.Layout.{body}
use Rattle.body.specs.Loads.{loads}
use Rattle.body.proofs.Loading.{loads_back, loads_only, body_bytes, sized as orders_sized}
use Rattle.call.specs.declared.clearing.Clearing.{Clearing}
use Rattle.call.specs.Clearing.{clearing}
use Rattle.call.specs.Crossing.{pair_lots, pair, pairs}
use Rattle.call.specs.Fairness.{Fair}
use Rattle.call.specs.Steps.{Valid, crossed_at, acted, call_step}
use Rattle.call.specs.Pairings.{pairs_few}
use Rattle.call.specs.Sounds.{entered_valid, passed_valid, withdrawn_valid, crossed_valid}

pub fresh_valid : Valid nothing
fresh_valid = refl

pub starts : Valid nothing × (nothing.last ≡ 0)
starts = (fresh_valid, refl)

pub passes : (h : Resting) → Valid h → h.last < 1_000_000_000_000 → Valid (passed h)
passes h v l = passed_valid h l v

pub acted_valid : (h : Resting) (c : Command) → Valid h → h.last < 1_000_000_000_000 → good c ≡ true → Valid (acted h c).0
acted_valid h (Enter m s p q) v l g = entered_valid h s (arriving h m p q) refl (arriving_kept h m p q g) l v
acted_valid h (Cancel m n) v l g = withdrawn_valid h m n l v
acted_valid h Cross v l g = crossed_valid h l v

pub keeps : (h : Resting) (c : Command) → Valid h → Valid (call_step h c).0
keeps = stepped_keeps acted sound acted_valid passes

pub crossed_few : (h : Resting) (k : Clearing) → Valid h → length (crossed_at h k).1 ≤ 64
crossed_few h k v = way (k.lots.0 == 0) refl where
  way : (t : Bool) → (k.lots.0 == 0) ≡ t → length (crossed_at h k).1 ≤ 64
  way true e = simp e (omega arith)
  way false e = let f = sound_fact h v in simp e (omega (arith, pairs_few (next h) k.price (length h.buys + length h.sells) k.lots.0 h.buys h.sells, f.buys.few, f.sells.few))

pub acted_few : (h : Resting) (c : Command) → Valid h → length (acted h c).1 ≤ 64
acted_few h (Enter m Buy p q) v = omega (arith, rested_few Buy (arriving h m p q) h.buys)
acted_few h (Enter m Sell p q) v = omega (arith, rested_few Sell (arriving h m p q) h.sells)
acted_few h (Cancel m n) v = omega (arith, withdrawn_few h m n)
acted_few h Cross v = crossed_few h (clearing h.buys h.sells) v

pub few : (h : Resting) (c : Command) → Valid h → length (call_step h c).1 ≤ 64
few = stepped_few acted sound acted_few

crossed_counts : (h : Resting) (k : Clearing) → (crossed_at h k).0.last ≡ h.last + 1
crossed_counts h k = way (k.lots.0 == 0) refl where
  way : (t : Bool) → (k.lots.0 == 0) ≡ t → (crossed_at h k).0.last ≡ h.last + 1
  way true e = simp e
  way false e = simp e

pub acted_counts : (h : Resting) (c : Command) → (acted h c).0.last ≡ h.last + 1
acted_counts h (Enter m Buy p q) = refl
acted_counts h (Enter m Sell p q) = refl
acted_counts h (Cancel m n) = refl
acted_counts h Cross = crossed_counts h (clearing h.buys h.sells)

pub counts : (h : Resting) (c : Command) → (call_step h c).0.last ≡ cond (nat_lt h.last 1_000_000_000_000) (h.last + 1) h.last
counts = stepped_counts acted acted_counts

-- a fill is the cross's
pairs_uncounted : (i : ℕ) (c : CommandNumber) (p : Price) → c.0 ≡ i → (k n : ℕ) (bs ss : List Order) → all (uncounted i) (pairs c p k n bs ss) ≡ true
pairs_uncounted i c p e zero n bs ss = refl
pairs_uncounted i c p e (suc k) n [] ss = refl
pairs_uncounted i c p e (suc k) n (b ∷ bs) [] = refl
pairs_uncounted i c p e (suc k) n (b ∷ bs) (s ∷ ss) =
    way (n == 0) (pairs_uncounted i c p e k (n - pair_lots n b s) (reduced (b ∷ bs) (pair_lots n b s)) (reduced (s ∷ ss) (pair_lots n b s))) where
      way : (t : Bool) → all (uncounted i) (pairs c p k (n - pair_lots n b s) (reduced (b ∷ bs) (pair_lots n b s)) (reduced (s ∷ ss) (pair_lots n b s))) ≡ true →
          all (uncounted i) (cond t [] (pair c p n b s ∷ pairs c p k (n - pair_lots n b s) (reduced (b ∷ bs) (pair_lots n b s)) (reduced (s ∷ ss) (pair_lots n b s)))) ≡ true
      way true h = refl
      way false h = and_from (uncounted i (pair c p n b s)) _ (uncounted_of i c.0 e) h

crossed_uncounted : (h : Resting) (k : Clearing) → all (uncounted (h.last + 1)) (crossed_at h k).1 ≡ true
crossed_uncounted h k = way (k.lots.0 == 0) refl where
  way : (t : Bool) → (k.lots.0 == 0) ≡ t → all (uncounted (h.last + 1)) (crossed_at h k).1 ≡ true
  way true e = simp e
  way false e = simp e (pairs_uncounted (h.last + 1) (next h) k.price refl (length h.buys + length h.sells) k.lots.0 h.buys h.sells)

pub acted_uncounted : (h : Resting) (c : Command) → all (uncounted (h.last + 1)) (acted h c).1 ≡ true
acted_uncounted h (Enter m Buy p q) = rested_uncounted Buy (h.last + 1) (arriving h m p q) h.buys refl
acted_uncounted h (Enter m Sell p q) = rested_uncounted Sell (h.last + 1) (arriving h m p q) h.sells refl
acted_uncounted h (Cancel m n) = withdrawn_uncounted h m n
acted_uncounted h Cross = crossed_uncounted h (clearing h.buys h.sells)

pub uncounts : (h : Resting) (c : Command) → all (uncounted (h.last + 1)) (call_step h c).1 ≡ true
uncounts = stepped_uncounts acted acted_uncounted

-- a command that is not good passes, and at the last number nothing happens
pub passes_fair : (h : Resting) (c : Command) → Valid h → h.last < 1_000_000_000_000 → good c ≡ false → Fair h c (passed h) []
passes_fair h (Enter m s p q) v l b = tt
passes_fair h (Cancel m n) v l b = tt
passes_fair h Cross v l b = absurd (search rules)

pub stays_fair : (h : Resting) (c : Command) → Valid h → 1_000_000_000_000 ≤ h.last → Fair h c h []
stays_fair h (Enter m s p q) v l = tt
stays_fair h (Cancel m n) v l = tt
stays_fair h Cross v l = λ k. absurd (omega arith)

pub bounded : (h : Resting) → Valid h → h.last ≤ 1_000_000_000_000
bounded h v = orders_bounded h (v)

-- bodies
pub plain : (h : Resting) → Bytes (body h)
plain = body_bytes

pub sized : (h : Resting) → Valid h → length (body h) ≡ 1536
sized h v = orders_sized h (v)

pub back : (h : Resting) → Valid h → loads sound (body h) ≡ Some h
back = loads_back sound (λ h v. v)

pub only : (b : List ℕ) (h : Resting) → loads sound b ≡ Some h → Valid h × (body h ≡ b)
only = loads_only sound (λ h v. v)
