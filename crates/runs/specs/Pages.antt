-- How an exchange at work comes on. Assumes nothing.
use Rattle.std.specs.Prelude.{◌≡◌, ◌<◌, ◌⊎◌, ℕ, suc, ◌+◌, [], length, vec_items, vec_len, Ok, Err, Some, None, Option}
use Rattle.market.specs.declared.interface.Market as market
use Rattle.device.specs.declared.Device as device
use Rattle.records.specs.Commands.{encoded}
use Rattle.records.specs.declared.commands.Command.{Command}
use Rattle.records.specs.declared.numbers.CommandNumber.{CommandNumber}
use Rattle.records.specs.declared.refusals.Refusal.{Refusal}
use Rattle.protocol.specs.declared.faults.ExchangeFault.{ExchangeFault}
use Rattle.protocol.specs.declared.tokens.TicketNumbers.{TicketNumbers}
use Rattle.protocol.specs.declared.tokens.ReceiptNumbers.{ReceiptNumbers}
use Rattle.protocol.specs.Steps.{Stage, Write, Deliver}
use Rattle.exchange.specs.declared.state.Exchange.{Exchange}
use Rattle.exchange.specs.Views.{Called}
use Rattle.runs.specs.declared.asks.Ask.{Ask}
use Rattle.runs.specs.declared.asks.Ask.TheVariants as ask

module _ {M D : Type 0} where
  -- the same commands staged, and as many pages, commands, notices and delivered ones
  pub record SameCounts (x y : Exchange M D) : Type 0 where
    pub pages : y.pages.0 ≡ x.pages.0
    pub staged : vec_items y.staged ≡ vec_items x.staged
    pub commands : y.commands.0 ≡ x.commands.0
    pub notices : y.notices.0 ≡ x.notices.0
    pub mark : y.mark.0 ≡ x.mark.0

  -- A page more is counted, and nothing is staged. The receipt's notices are the next ones, which are not delivered yet.
  pub record Given (x : Exchange M D) (r : ReceiptNumbers) (y : Exchange M D) : Type 0 where
    pub staged : vec_items y.staged ≡ []
    pub pages : y.pages.0 ≡ suc x.pages.0
    pub next : r.notice.0 ≡ suc x.notices.0
    pub notices : y.notices.0 ≡ x.notices.0 + r.notices
    pub mark : y.mark.0 ≡ x.mark.0

  -- The page of what was staged is counted, and the receipt is of these commands.
  pub record Counted (x : Exchange M D) (r : ReceiptNumbers) (y : Exchange M D) : Type 0 where
    pub given : Given x r y
    pub covers : r.commands ≡ length (vec_items x.staged)
    pub commands : y.commands.0 ≡ x.commands.0 + r.commands

  -- all notices that were given are delivered
  abbrev pub AllDelivered : Exchange M D → Type 0
  AllDelivered x = x.mark.0 ≡ x.notices.0

  -- no command waits to be written, and no notice to be delivered
  abbrev pub NothingWaits : Exchange M D → Type 0
  NothingWaits x = (vec_items x.staged ≡ []) × AllDelivered x

  -- what was staged is counted, and nothing is staged
  abbrev pub Committed : Exchange M D → Exchange M D → Type 0
  Committed x y = (y.commands.0 ≡ x.commands.0 + length (vec_items x.staged)) × (vec_items y.staged ≡ [])

  -- a full page is committed, and another one left as it is
  abbrev pub CommittedFull : Exchange M D → Exchange M D → Type 0
  CommittedFull x y = ((vec_len x.staged ≡ 16) × Committed x y) ⊎ ((vec_len x.staged < 16) × (y ≡ x))

  -- nothing waits, and a snapshot covers the last page
  abbrev pub AllCovered : Exchange M D → Type 0
  AllCovered x = NothingWaits x × (x.covered.0 ≡ x.pages.0)

module _ {M D : Type 0} (m : market.Ghosts M) (d : device.Ghosts D) where
  -- The staged page is written, where need be after a snapshot, and this is its ticket.
  pub record Written (x : Exchange M D) (t : TicketNumbers) (y : Exchange M D) : Type 0 where
    pub from : Exchange M D
    pub kept : SameCounts x from
    pub wrote : Called m d from (Write (Ok t)) y

  -- this receipt is delivered
  abbrev pub Delivers : Exchange M D → ReceiptNumbers → Exchange M D → Type 0
  Delivers x r y = Called m d x (Deliver r (Ok tt)) y

  -- a command is staged, or refused for this reason
  abbrev pub StagedOr : Exchange M D → Command → Option Refusal → Exchange M D → Type 0
  StagedOr x c None y = (n : CommandNumber) × Called m d x (Stage (encoded c) (Ok n)) y
  StagedOr x c (Some r) y = (f : ExchangeFault) × (f.reason ≡ r) × Called m d x (Stage (encoded c) (Err f)) y

  -- A command is staged or refused. A page that is full then is committed.
  pub record Taken (x : Exchange M D) (c : Command) (r : Option Refusal) (y : Exchange M D) : Type 0 where
    pub from : Exchange M D
    pub staged : StagedOr x c r from
    pub then : CommittedFull from y

  -- what is asked is done
  abbrev pub Done : Exchange M D → Ask → Exchange M D → Type 0
  Done x ask.Nothing y = y ≡ x
  Done x ask.Commit y = Committed x y
  Done x (ask.Take c) y = (r : Option Refusal) × Taken x c r y
