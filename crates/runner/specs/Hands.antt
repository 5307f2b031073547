-- The tokens in a hand.
use Rattle.std.specs.Prelude.{vec_items}
use Rattle.runner.specs.declared.hands.Hand.{Hand}
use Rattle.runner.specs.Tokens.{Tokens}

abbrev pub tokens_of : Hand → Tokens
tokens_of h = record { tickets = vec_items h.tickets; receipts = vec_items h.receipts }
