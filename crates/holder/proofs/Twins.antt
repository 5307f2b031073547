-- Two receipts that were answered for one page are one.
use Rattle.std.proofs.Common.{◌≡◌, List, [], ◌∷◌, ◌++◌, length, IfSome, Some, None, Option, sym, refl, ap, ◌∙◌, subst, arith, Ok, Err, Result, rules}
use Rattle.std.specs.Result.{result_ok}
use mathlib.Core.List.{Memᴰ, head-eq_of_cons-eq, tail-eq_of_cons-eq}
use Rattle.records.specs.declared.commands.Command.{Command}
use Rattle.protocol.specs.declared.tokens.ReceiptNumbers.{ReceiptNumbers}
use Rattle.protocol.specs.Worlds.{World}
use Rattle.protocol.specs.Steps.{Handed, Event, receipt}
use Rattle.protocol.specs.Promises.{History, Pages, flat, market_after, notices_count, OfRecord, Kept, EachKept}
use Rattle.holder.specs.Holding.{Answered, by_sync, by_replay}

-- the front and what follows, by the length of the front
same_front : (xs ys : Pages) (p q : List Command) (cs ds : Pages) → length xs ≡ length ys → xs ++ (p ∷ cs) ≡ ys ++ (q ∷ ds) → (xs ≡ ys) × (p ≡ q)
same_front [] [] p q cs ds l e = (refl, head-eq_of_cons-eq e)
same_front [] (y ∷ ys) p q cs ds l e = absurd (omega arith)
same_front (x ∷ xs) [] p q cs ds l e = absurd (omega arith)
same_front (x ∷ xs) (y ∷ ys) p q cs ds l e = let i = same_front xs ys p q cs ds (omega arith) (tail-eq_of_cons-eq e) in ((λ j. head-eq_of_cons-eq e j ∷ i.0 j), i.1)

module _ {S : Type 0} (w : World S) where
  pub one_page : (kept : Pages) (a b : Handed) → OfRecord w kept a → OfRecord w kept b → a.receipt.page ≡ b.receipt.page → a.receipt ≡ b.receipt
  one_page kept a b p q e =
      let pa = ap (λ (z : ReceiptNumbers). z.page.0) p.receipt in
      let pb = ap (λ (z : ReceiptNumbers). z.page.0) q.receipt in
      let l : length p.earlier ≡ length q.earlier = (let k : a.receipt.page.0 ≡ b.receipt.page.0 = ap (λ z. z.0) e in omega arith) in
      let s = same_front p.earlier q.earlier p.page q.page p.later q.later l (sym p.split ∙ q.split) in
      p.receipt ∙ (λ j. receipt w (length (s.0 j)) (length (flat (s.0 j))) (notices_count w (s.0 j)) (market_after w (s.0 j)) (s.1 j)) ∙ sym q.receipt

  kept_there : (kept : Pages) (h : History) (e : Event) → EachKept w kept h → Memᴰ e h → Kept w kept e
  kept_there kept [] e k m = elim m [ ]
  kept_there kept (f ∷ h) e k (Memᴰ.head q) = subst (Kept w kept) (sym q) k.0
  kept_there kept (f ∷ h) e k (Memᴰ.tail m) = kept_there kept h e k.1 m

  of_record : (kept : Pages) (h : History) (n : ReceiptNumbers) → EachKept w kept h → Answered h n → (a : Handed) × (a.receipt ≡ n) × OfRecord w kept a
  of_record kept h n k (by_sync t room a e m) = (a, e, kept_there kept h _ k m)
  of_record kept h n k (by_replay room a e m) = (a, e, kept_there kept h _ k m)

  pub one_receipt : (kept : Pages) (h : History) (n k : ReceiptNumbers) → EachKept w kept h → Answered h n → Answered h k → n.page ≡ k.page → n ≡ k
  one_receipt kept h n k each a b e =
      let p = of_record kept h n each a in
      let q = of_record kept h k each b in
      sym p.1 ∙ one_page kept p.0 q.0 p.2 q.2 (ap (λ (z : ReceiptNumbers). z.page) p.1 ∙ e ∙ sym (ap (λ (z : ReceiptNumbers). z.page) q.1)) ∙ q.1

pub if_some : (P Q : ReceiptNumbers → Type 0) (o : Option ReceiptNumbers) → IfSome o P → ((n : ReceiptNumbers) → P n → Q n) → IfSome o Q
if_some P Q (Some n) p f = f n p
if_some P Q None p f = tt

-- a result that is some by `ok` is that one
pub was_ok : {T E : Type 0} (r : Result T E) (x : T) → result_ok r ≡ Some x → r ≡ Ok x
was_ok (Ok y) x h = search rules
was_ok (Err e) x h = absurd (search rules)
