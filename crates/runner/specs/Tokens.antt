-- Tickets and receipts at hand, by their numbers.
use Rattle.std.specs.Prelude.{ℕ, ◌+◌, ◌-◌, ◌*◌, cond, length, List, [], Some, None, Option, ◌==◌, slice_index_or, slice_set}
use Rattle.exchange.specs.declared.tokens.Ticket.{Ticket}
use Rattle.exchange.specs.declared.tokens.Receipt.{Receipt}

-- every token that was answered, in its order; none where it is gone
pub record Tokens : Type 0 where
  pub tickets : List (Option Ticket)
  pub receipts : List (Option Receipt)

abbrev pub no_tokens : Tokens
no_tokens = record { tickets = []; receipts = [] }

-- the token with this number, from 1
abbrev pub held : {X : Type 0} → List (Option X) → ℕ → Option X
held xs n = cond (n == 0) None (slice_index_or xs (n - 1) None)

-- it is gone
abbrev pub cleared : {X : Type 0} → List (Option X) → ℕ → List (Option X)
cleared xs n = cond (n == 0) xs (slice_set xs (n - 1) None)

-- it has come back, or not
abbrev pub returned : {X : Type 0} → Option X → List (Option X) → ℕ → List (Option X)
returned None xs n = xs
returned (Some x) xs n = slice_set xs (n - 1) (Some x)

-- how many entries spend all of these, at most: two for a ticket, one for a receipt
abbrev pub most_closing : Tokens → ℕ
most_closing h = 2 * length h.tickets + length h.receipts
