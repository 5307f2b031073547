-- The calls in a log are the script's.
use Rattle.std.specs.Prelude.{◌≡◌, ℕ, Bool, true, false, cond, ◌||◌, List, [], ◌∷◌, ◌++◌, Some, None, Ok, Err, vec_items, Option, Result, ◌==◌}
use Rattle.protocol.specs.declared.faults.ExchangeFault.{ExchangeFault}
use Rattle.protocol.specs.declared.tokens.TicketNumbers.{TicketNumbers}
use Rattle.protocol.specs.declared.tokens.ReceiptNumbers.{ReceiptNumbers}
use Rattle.protocol.specs.Faults.{reason_of}
use Rattle.exchange.specs.declared.tokens.Ticket.{Ticket}
use Rattle.exchange.specs.declared.tokens.Receipt.{Receipt}
use Rattle.runner.specs.declared.log.HandedOut.{HandedOut}
use Rattle.runner.specs.declared.log.Entry.{Entry}
use Rattle.runner.specs.declared.log.Entry.TheVariants as entry
use Rattle.runner.specs.declared.script.Call.{Call}
use Rattle.runner.specs.declared.script.Call.TheVariants as call
use Rattle.runner.specs.Tokens.{Tokens, held, cleared}

-- what a call is made with
pub data Asked : Type 0 where
  stages : List ℕ → Asked
  writes : Asked
  syncs : TicketNumbers → ℕ → Asked
  delivers : ReceiptNumbers → Asked
  shelves : ReceiptNumbers → Asked
  snapshots : Asked
  restarts : Asked
  opens : Asked
  replays : ℕ → Asked
  nothing : Asked

-- what is asked by a script's call: nothing, where it names a token that is not at hand
abbrev pub with_ticket : Option Ticket → ℕ → Asked
with_ticket (Some t) room = syncs t.numbers room
with_ticket None room = nothing

abbrev pub with_receipt : (ReceiptNumbers → Asked) → Option Receipt → Asked
with_receipt f (Some r) = f r.numbers
with_receipt f None = nothing

abbrev pub asked : Tokens → Call → Asked
asked h (call.Stage bs) = stages (vec_items bs)
asked h call.Write = writes
asked h (call.Sync i room) = with_ticket (held h.tickets i) room
asked h (call.Deliver i) = with_receipt delivers (held h.receipts i)
asked h (call.Shelve i) = with_receipt shelves (held h.receipts i)
asked h call.Snapshot = snapshots
asked h call.Restart = restarts
asked h call.Open = opens
asked h (call.Replay room) = replays room

-- what was done, by an entry of the log
abbrev pub made : Entry → Asked
made (entry.Stage bs a) = stages (vec_items bs)
made (entry.Write a) = writes
made (entry.Sync t room a) = syncs t room
made (entry.Deliver r a) = delivers r
made (entry.Shelve r) = shelves r
made (entry.Snapshot a) = snapshots
made entry.Restart = restarts
made (entry.Open a) = opens
made (entry.Replay room a) = replays room
made entry.Spent = nothing

-- the tokens that an answer brings, and whether the token that was handed in comes back
abbrev pub ticket_in : Result TicketNumbers ExchangeFault → List (Option Ticket)
ticket_in (Ok t) = Some (record { numbers = t }) ∷ []
ticket_in (Err f) = []

abbrev pub receipt_in : Result HandedOut ExchangeFault → List (Option Receipt)
receipt_in (Ok h) = Some (record { numbers = h.receipt }) ∷ []
receipt_in (Err f) = []

abbrev pub receipt_read : Result (Option HandedOut) ExchangeFault → List (Option Receipt)
receipt_read (Ok (Some h)) = Some (record { numbers = h.receipt }) ∷ []
receipt_read (Ok None) = []
receipt_read (Err f) = []

-- after reasons 9 and 10 a ticket comes back, after any reason a receipt
abbrev pub ticket_back : Result HandedOut ExchangeFault → Bool
ticket_back (Ok h) = false
ticket_back (Err f) = reason_of f == 9 || reason_of f == 10

abbrev pub receipt_back : Result (Unit {0}) ExchangeFault → Bool
receipt_back (Ok u) = false
receipt_back (Err f) = true

-- the tokens at hand after the call `i` (a token's number, where it names one)
abbrev pub after_entry : Tokens → ℕ → Entry → Tokens
after_entry h i (entry.Stage bs a) = h
after_entry h i (entry.Write a) = record { tickets = h.tickets ++ ticket_in a; receipts = h.receipts }
after_entry h i (entry.Sync t room a) = record { tickets = cond (ticket_back a) h.tickets (cleared h.tickets i); receipts = h.receipts ++ receipt_in a }
after_entry h i (entry.Deliver r a) = record { tickets = h.tickets; receipts = cond (receipt_back a) h.receipts (cleared h.receipts i) }
after_entry h i (entry.Shelve r) = record { tickets = h.tickets; receipts = cleared h.receipts i }
after_entry h i (entry.Snapshot a) = h
after_entry h i entry.Restart = h
after_entry h i (entry.Open a) = h
after_entry h i (entry.Replay room a) = record { tickets = h.tickets; receipts = h.receipts ++ receipt_read a }
after_entry h i entry.Spent = h

abbrev pub token_of : Call → ℕ
token_of (call.Stage bs) = 0
token_of call.Write = 0
token_of (call.Sync i room) = i
token_of (call.Deliver i) = i
token_of (call.Shelve i) = i
token_of call.Snapshot = 0
token_of call.Restart = 0
token_of call.Open = 0
token_of (call.Replay room) = 0

-- how many entries spend what a call may bring, at most: two for a ticket, one for a receipt
abbrev pub most_brought : Call → ℕ
most_brought (call.Stage bs) = 0
most_brought call.Write = 2
most_brought (call.Sync i room) = 1
most_brought (call.Deliver i) = 0
most_brought (call.Shelve i) = 0
most_brought call.Snapshot = 0
most_brought call.Restart = 0
most_brought call.Open = 0
most_brought (call.Replay room) = 1

-- the entry is of this call, with the tokens at hand before and after
pub record Answers (before : Tokens) (c : Call) (e : Entry) (after : Tokens) : Type 0 where
  pub call : made e ≡ asked before c
  pub tokens : after ≡ after_entry before (token_of c) e

-- every call of a script has its entry, in its order
abbrev pub Played : Tokens → List Call → List Entry → Tokens → Type 0
Played h [] [] k = k ≡ h
Played h [] (e ∷ es) k = ⊥
Played h (c ∷ cs) [] k = ⊥
Played h (c ∷ cs) (e ∷ es) k = Answers h c e (after_entry h (token_of c) e) × Played (after_entry h (token_of c) e) cs es k

-- what spends a token that is left: a ticket is spent by a restart and a sync that is lent no list, a receipt by shelving it
abbrev pub spends_ticket : Option Ticket → List Asked
spends_ticket (Some t) = restarts ∷ syncs t.numbers 0 ∷ []
spends_ticket None = []

abbrev pub spends_receipt : Option Receipt → List Asked
spends_receipt (Some r) = shelves r.numbers ∷ []
spends_receipt None = []

-- from the last one on
abbrev pub from_last : {X : Type 0} → (X → List Asked) → List X → List Asked
from_last f [] = []
from_last f (x ∷ xs) = from_last f xs ++ f x

-- all tickets, then all receipts
abbrev pub spends_all : Tokens → List Asked
spends_all h = from_last spends_ticket h.tickets ++ from_last spends_receipt h.receipts
