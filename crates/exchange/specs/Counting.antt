-- A page counted.
use Rattle.std.specs.Prelude.{◌≡◌, ℕ, suc, ◌+◌, List, []}
use Rattle.records.specs.declared.commands.Command.{Command}
use Rattle.records.specs.declared.notices.Notice.{Notice}
use Rattle.market.specs.Lists.{over}
use Rattle.protocol.specs.declared.tokens.ReceiptNumbers.{ReceiptNumbers}
use Rattle.protocol.specs.Worlds.{Rules}
use Rattle.protocol.specs.declared.phases.Phase.{Phase}
use Rattle.protocol.specs.Steps.{State, world_of, receipt, applied, handed}

-- one page more, with so many commands and notices; nothing is staged
abbrev pub one_more : {S : Type 0} → Phase → ℕ → ℕ → S → State S → State S
one_more p commands notices s x = record { house = x.house; phase = p; staged = []; pages = suc x.pages; commands = x.commands + commands; notices = x.notices + notices; mark = x.mark; covered = x.covered; slot = x.slot; market = s; device = x.device }

-- a page of commands applied: the receipt is its own, the state that after it, and its notices are counted over the front of the list
pub record Applied {S : Type 0} (r : Rules S) (p : Phase) (cs : List Command) (x : State S) (before : List Notice) (n : ReceiptNumbers) (x' : State S) (after : List Notice) : Type 0 where
  pub receipt : n ≡ receipt (world_of r x) x.pages x.commands x.notices x.market cs
  pub result : x' ≡ applied (world_of r x) p cs x.device x
  pub list : after ≡ over before (handed (world_of r x) x.notices x.market cs)
