-- Tokens that come back, and those that do not.
use Rattle.std.proofs.Common.{◌≡◌, ℕ, ◌+◌, ◌-◌, ◌≤◌, Bool, true, false, cond, eqb, List, ◌++◌, length, set, IfOk, OnErr, Some, None, Ok, Err, Option, Result, sym, refl, ap, ◌∙◌, subst, arith}
use Rattle.std.proofs.lemmas.List.{length-append, length-set}
use Rattle.protocol.specs.declared.faults.ExchangeFault.{ExchangeFault}
use Rattle.protocol.specs.declared.tokens.TicketNumbers.{TicketNumbers}
use Rattle.protocol.specs.declared.tokens.ReceiptNumbers.{ReceiptNumbers}
use Rattle.exchange.specs.declared.tokens.Ticket.{Ticket}
use Rattle.exchange.specs.declared.tokens.Receipt.{Receipt}
use Rattle.runner.specs.Tokens.{Tokens, held, cleared, returned, most_closing}
use Rattle.runner.specs.declared.log.HandedOut.{HandedOut}
use Rattle.runner.specs.declared.log.Entry.{Entry}
use Rattle.runner.specs.declared.log.Entry.TheVariants as entry
use Rattle.runner.specs.declared.script.Call.{Call}
use Rattle.runner.specs.declared.script.Call.TheVariants as call
use Rattle.runner.specs.Playing.{Asked, stages, writes, syncs, delivers, shelves, snapshots, restarts, opens, replays, nothing, with_ticket, with_receipt, asked, made, ticket_in, receipt_in, receipt_read, ticket_back, receipt_back, after_entry, token_of, most_brought, Answers}
use Rattle.runner.proofs.Places.{back_again}

-- what was taken and comes back, or not
pub back_or_gone : {X : Type 0} (xs ys : List (Option X)) (n : ℕ) (x : X) (o : Option X) (b : Bool) → held xs n ≡ Some x → ys ≡ cleared xs n → o ≡ cond b (Some x) None → returned o ys n ≡ cond b xs (cleared xs n)
back_or_gone xs ys n x o true h e q = (λ i. returned (q i) (e i) n) ∙ back_again xs n x h
back_or_gone xs ys n x o false h e q = (λ i. returned (q i) (e i) n)

-- a replay's entry, where memory was found for its list
pub replay_answers : {E : Type 0} (before mid after : Tokens) (c : Call) (room : ℕ) (r : Result Entry E) → c ≡ call.Replay room → mid ≡ before → IfOk r (λ e. made e ≡ replays room) → IfOk r (λ e. after ≡ after_entry mid 0 e) → IfOk r (λ e. Answers before c e after)
replay_answers before mid after c room (Ok e) q m a t = subst (λ z. Answers before z e after) (sym q) (record { call = a; tokens = t ∙ ap (λ h. after_entry h 0 e) m })
replay_answers before mid after c room (Err f) q m a t = tt

pub at_tokens : {E : Type 0} {A : Type 0} (r : Result Entry E) (P : Entry → A → Type 0) (x : A) → IfOk r (λ e. (y : A) → P e y) → IfOk r (λ e. P e x)
at_tokens (Ok e) P x h = h x
at_tokens (Err f) P x h = tt

pub write_answers : (before mid after : Tokens) (c : Call) (e : Entry) → c ≡ call.Write → mid ≡ before → made e ≡ writes → after ≡ after_entry mid 0 e → Answers before c e after
write_answers before mid after c e q m a t = subst (λ z. Answers before z e after) (sym q) (record { call = a; tokens = t ∙ ap (λ h. after_entry h 0 e) m })

-- how many tokens there are at hand after an entry
length_cleared : {X : Type 0} (xs : List (Option X)) (n : ℕ) → length (cleared xs n) ≡ length xs
length_cleared xs n = go (eqb n 0)
  where
    go : (b : Bool) → length (cond b xs (set xs (n - 1) None)) ≡ length xs
    go true = refl
    go false = length-set xs (n - 1) None

length_kept : {X : Type 0} (xs : List (Option X)) (n : ℕ) (b : Bool) → length (cond b xs (cleared xs n)) ≡ length xs
length_kept xs n true = refl
length_kept xs n false = length_cleared xs n

one_ticket : (ts : List (Option Ticket)) (a : Result TicketNumbers ExchangeFault) → length (ts ++ ticket_in a) ≤ length ts + 1
one_ticket ts (Ok t) = rw length-append (omega arith)
one_ticket ts (Err f) = rw length-append (omega arith)

one_receipt : (rs : List (Option Receipt)) (a : Result HandedOut ExchangeFault) → length (rs ++ receipt_in a) ≤ length rs + 1
one_receipt rs (Ok t) = rw length-append (omega arith)
one_receipt rs (Err f) = rw length-append (omega arith)

one_read : (rs : List (Option Receipt)) (a : Result (Option HandedOut) ExchangeFault) → length (rs ++ receipt_read a) ≤ length rs + 1
one_read rs (Ok (Some t)) = rw length-append (omega arith)
one_read rs (Ok None) = rw length-append (omega arith)
one_read rs (Err f) = rw length-append (omega arith)

-- how many entries spend what may come of what is asked
abbrev spends_brought : Asked → ℕ
spends_brought (stages bs) = 0
spends_brought writes = 2
spends_brought (syncs t room) = 1
spends_brought (delivers r) = 0
spends_brought (shelves r) = 0
spends_brought snapshots = 0
spends_brought restarts = 0
spends_brought opens = 0
spends_brought (replays room) = 1
spends_brought nothing = 0

grows : (h : Tokens) (i : ℕ) (e : Entry) → most_closing (after_entry h i e) ≤ most_closing h + spends_brought (made e)
grows h i (entry.Stage bs a) = omega arith
grows h i (entry.Write a) = omega (arith, one_ticket h.tickets a)
grows h i (entry.Sync t room a) = omega (arith, length_kept h.tickets i (ticket_back a), one_receipt h.receipts a)
grows h i (entry.Deliver r a) = omega (arith, length_kept h.receipts i (receipt_back a))
grows h i (entry.Shelve r) = omega (arith, length_cleared h.receipts i)
grows h i (entry.Snapshot a) = omega arith
grows h i entry.Restart = omega arith
grows h i (entry.Open a) = omega arith
grows h i (entry.Replay room a) = omega (arith, one_read h.receipts a)
grows h i entry.Spent = omega arith

by_ticket : (o : Option Ticket) (room : ℕ) → spends_brought (with_ticket o room) ≤ 1
by_ticket (Some t) room = omega arith
by_ticket None room = omega arith

by_receipt : (f : ReceiptNumbers → Asked) (o : Option Receipt) → ((r : ReceiptNumbers) → spends_brought (f r) ≡ 0) → spends_brought (with_receipt f o) ≤ 0
by_receipt f (Some r) z = omega (arith, z r.numbers)
by_receipt f None z = omega arith

brought : (h : Tokens) (c : Call) → spends_brought (asked h c) ≤ most_brought c
brought h (call.Stage bs) = omega arith
brought h call.Write = omega arith
brought h (call.Sync i room) = by_ticket (held h.tickets i) room
brought h (call.Deliver i) = by_receipt delivers (held h.receipts i) (λ r. refl)
brought h (call.Shelve i) = by_receipt shelves (held h.receipts i) (λ r. refl)
brought h call.Snapshot = omega arith
brought h call.Restart = omega arith
brought h call.Open = omega arith
brought h (call.Replay room) = omega arith

-- a call brings no more tokens than its kind may
pub answers_grow : (h k : Tokens) (c : Call) (e : Entry) → Answers h c e k → most_closing k ≤ most_closing h + most_brought c
answers_grow h k c e a =
    let g : most_closing k ≤ most_closing h + spends_brought (made e) = subst (λ z. most_closing z ≤ most_closing h + spends_brought (made e)) (sym a.tokens) (grows h (token_of c) e) in
    let q : spends_brought (made e) ≡ spends_brought (asked h c) = ap spends_brought a.call in
    omega (arith, g, q, brought h c)

pub err_then : {A E : Type 0} {P Q : Type 0} (r : Result A E) → (P → Q) → OnErr r P → OnErr r Q
err_then (Ok a) f h = tt
err_then (Err e) f h = f h
