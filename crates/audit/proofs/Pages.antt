-- A record's answers, one page more.
use Rattle.std.proofs.Common.{◌≡◌, ◌+◌, List, [], ◌∷◌, ◌++◌, length, sym, refl, ap, ◌∙◌, subst, append_assoc, append-nil, arith, length-append}
use mathlib.Core.List.{Memᴰ}
use Rattle.records.specs.declared.commands.Command.{Command}
use Rattle.records.specs.Notices.{counted}
use Rattle.protocol.specs.Worlds.{World, after, given}
use Rattle.protocol.specs.Steps.{Handed, handed}
use Rattle.protocol.specs.Promises.{Pages, flat, market_after, notices_count, record_notices, OfRecord}
use Rattle.protocol.proofs.Lists.{flat_snoc, counted_append}
use Rattle.audit.specs.Answers.{answer, answers_on, answers}

module _ {S : Type 0} (w : World S) where
  answers_on_more : (earlier ps : Pages) (p : List Command) → answers_on w earlier (ps ++ (p ∷ [])) ≡ answers_on w earlier ps ++ (answer w (earlier ++ ps) p ∷ [])
  answers_on_more earlier [] p = ap (λ z. answer w z p ∷ []) (sym (append-nil earlier))
  answers_on_more earlier (q ∷ ps) p = ap (λ l. answer w earlier q ∷ l) (answers_on_more (earlier ++ (q ∷ [])) ps p ∙ ap (λ z. answers_on w (earlier ++ (q ∷ [])) ps ++ (answer w z p ∷ [])) (append_assoc earlier (q ∷ []) ps))

  pub answers_more : (ps : Pages) (p : List Command) → answers w (ps ++ (p ∷ [])) ≡ answers w ps ++ (answer w ps p ∷ [])
  answers_more ps p = answers_on_more [] ps p

  pub length_answers : (earlier ps : Pages) → length (answers_on w earlier ps) ≡ length ps
  length_answers earlier [] = refl
  length_answers earlier (p ∷ ps) = omega (arith, length_answers (earlier ++ (p ∷ [])) ps)

  -- an answer is the record's exactly where it is among these
  among : (earlier xs : Pages) (p : List Command) (ys : Pages) → Memᴰ (answer w (earlier ++ xs) p) (answers_on w earlier (xs ++ (p ∷ ys)))
  among earlier [] p ys = Memᴰ.head (ap (λ z. answer w z p) (append-nil earlier))
  among earlier (x ∷ xs) p ys = Memᴰ.tail (subst (λ z. Memᴰ (answer w z p) (answers_on w (earlier ++ (x ∷ [])) (xs ++ (p ∷ ys)))) (append_assoc earlier (x ∷ []) xs) (among (earlier ++ (x ∷ [])) xs p ys))

  pub of_record_among : (kept : Pages) (h : Handed) → OfRecord w kept h → Memᴰ h (answers w kept)
  of_record_among kept h o =
      let is : answer w o.earlier o.page ≡ h = (λ i. record { receipt = sym o.receipt i; notices = sym o.notices i }) in
      subst (λ z. Memᴰ z (answers w kept)) is (subst (λ z. Memᴰ (answer w o.earlier o.page) (answers w z)) (sym o.split) (among [] o.earlier o.page o.later))

  record Place (earlier ps : Pages) (h : Handed) : Type 0 where
    front : Pages
    page : List Command
    rest : Pages
    split : ps ≡ front ++ (page ∷ rest)
    is : h ≡ answer w (earlier ++ front) page

  place : (earlier ps : Pages) (h : Handed) → Memᴰ h (answers_on w earlier ps) → Place earlier ps h
  place earlier [] h m = elim m [ ]
  place earlier (p ∷ ps) h (Memᴰ.head e) = record { front = []; page = p; rest = ps; split = refl; is = e ∙ ap (λ z. answer w z p) (sym (append-nil earlier)) }
  place earlier (p ∷ ps) h (Memᴰ.tail m) =
      let q = place (earlier ++ (p ∷ [])) ps h m in
      record { front = p ∷ q.front; page = q.page; rest = q.rest; split = ap (λ z. p ∷ z) q.split; is = q.is ∙ ap (λ z. answer w z q.page) (append_assoc earlier (p ∷ []) q.front) }

  pub among_of_record : (kept : Pages) (h : Handed) → Memᴰ h (answers w kept) → OfRecord w kept h
  among_of_record kept h m =
      let q = place [] kept h m in
      record { earlier = q.front; page = q.page; later = q.rest; split = q.split; receipt = ap (λ (z : Handed). z.receipt) q.is; notices = ap (λ (z : Handed). z.notices) q.is }

  -- what the market gives and comes to over a page more
  given_both : (s : S) (xs ys : List Command) → given w s (xs ++ ys) ≡ given w s xs ++ given w (after w s xs) ys
  given_both s [] ys = refl
  given_both s (x ∷ xs) ys = ap (λ l. (w.rules.step s x).1 ++ l) (given_both (w.rules.step s x).0 xs ys) ∙ sym (append_assoc (w.rules.step s x).1 (given w (w.rules.step s x).0 xs) (given w (after w (w.rules.step s x).0 xs) ys))

  after_both : (s : S) (xs ys : List Command) → after w s (xs ++ ys) ≡ after w (after w s xs) ys
  after_both s [] ys = refl
  after_both s (x ∷ xs) ys = after_both (w.rules.step s x).0 xs ys

  pub market_more : (ps : Pages) (p : List Command) → market_after w (ps ++ (p ∷ [])) ≡ after w (market_after w ps) p
  market_more ps p = ap (after w w.rules.start) (flat_snoc ps p) ∙ after_both w.rules.start (flat ps) p

  given_more : (ps : Pages) (p : List Command) → given w w.rules.start (flat (ps ++ (p ∷ []))) ≡ given w w.rules.start (flat ps) ++ given w (market_after w ps) p
  given_more ps p = ap (given w w.rules.start) (flat_snoc ps p) ∙ given_both w.rules.start (flat ps) p

  pub count_more : (ps : Pages) (p : List Command) → notices_count w (ps ++ (p ∷ [])) ≡ notices_count w ps + length (given w (market_after w ps) p)
  count_more ps p = ap length (given_more ps p) ∙ length-append (given w w.rules.start (flat ps)) (given w (market_after w ps) p)

  pub flat_length : (ps : Pages) (p : List Command) → length (flat (ps ++ (p ∷ []))) ≡ length (flat ps) + length p
  flat_length ps p = ap length (flat_snoc ps p) ∙ length-append (flat ps) p

  pub record_more : (ps : Pages) (p : List Command) → record_notices w (ps ++ (p ∷ [])) ≡ record_notices w ps ++ handed w (notices_count w ps) (market_after w ps) p
  record_more ps p = ap (counted 0) (given_more ps p) ∙ counted_append 0 (given w w.rules.start (flat ps)) (given w (market_after w ps) p) ∙ ap (λ k. record_notices w ps ++ counted k (given w (market_after w ps) p)) (omega arith)
