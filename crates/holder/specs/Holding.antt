-- A receipt that was answered in a run.
use Rattle.std.specs.Prelude.{◌≡◌, ℕ, List, [], ◌∷◌, ◌++◌, Some, Ok}
use mathlib.Core.List.{Memᴰ}
use Rattle.market.specs.declared.interface.Market as market
use Rattle.device.specs.declared.Device as device
use Rattle.records.specs.declared.numbers.CommandNumber.{CommandNumber}
use Rattle.records.specs.declared.numbers.PageNumber.{PageNumber}
use Rattle.protocol.specs.declared.tokens.ReceiptNumbers.{ReceiptNumbers}
use Rattle.protocol.specs.declared.tokens.TicketNumbers.{TicketNumbers}
use Rattle.protocol.specs.Worlds.{rules_of}
use Rattle.protocol.specs.Steps.{Handed, Stage, Write, Sync, Shelve, Restart, Open, Replay}
use Rattle.protocol.specs.Promises as promises
use Rattle.exchange.specs.declared.state.Exchange.{Exchange}
use Rattle.exchange.specs.Views.{view}

-- sync or replay answered it
pub data Answered (h : promises.History) (n : ReceiptNumbers) : Type 0 where
  by_sync : (t : TicketNumbers) (room : ℕ) (a : Handed) → a.receipt ≡ n → Memᴰ (Sync t room (Ok a)) h → Answered h n
  by_replay : (room : ℕ) (a : Handed) → a.receipt ≡ n → Memᴰ (Replay room (Ok (Some a))) h → Answered h n

-- a page was synced, and its receipt shelved (the latest first, here and below)
abbrev pub synced : TicketNumbers → ℕ → Handed → promises.History
synced t room a = Shelve a.receipt ∷ Sync t room (Ok a) ∷ []

-- one command was staged and sent
abbrev pub sent : List ℕ → CommandNumber → TicketNumbers → promises.History
sent bs k t = Write (Ok t) ∷ Stage bs (Ok k) ∷ []

-- a restart, an opening, and one page replayed, whose receipt was shelved
abbrev pub asked_again : PageNumber → ℕ → Handed → promises.History
asked_again p room a = Shelve a.receipt ∷ Replay room (Ok (Some a)) ∷ Open (Ok p) ∷ Restart ∷ []

module _ {M D : Type 0} (m : market.Ghosts M) (d : device.Ghosts D) where
  -- a run with this history led here
  abbrev pub RunTo : promises.History → Exchange M D → Type 0
  RunTo h x = promises.Run (rules_of m) h (view m d x)

  -- a run goes on by a sync with this ticket, which answers the receipt
  pub record SyncedOn (t : TicketNumbers) (n : ReceiptNumbers) (h : promises.History) (y : Exchange M D) : Type 0 where
    pub room : ℕ
    pub answer : Handed
    pub is : answer.receipt ≡ n
    pub run : RunTo (synced t room answer ++ h) y

  abbrev pub Syncs : Exchange M D → TicketNumbers → ReceiptNumbers → Exchange M D → Type 0
  Syncs x t n y = (h : promises.History) → RunTo h x → SyncedOn t n h y

  -- the exchange was set up, and one page with this one command was sent and synced: its receipt
  pub record OnePage (bs : List ℕ) (n : ReceiptNumbers) (x : Exchange M D) : Type 0 where
    pub number : CommandNumber
    pub ticket : TicketNumbers
    pub room : ℕ
    pub answer : Handed
    pub is : answer.receipt ≡ n
    pub run : RunTo (synced ticket room answer ++ sent bs number ticket) x

  -- a run goes on by a restart, an opening and a replay, which answers the receipt
  pub record AskedOn (n : ReceiptNumbers) (h : promises.History) (y : Exchange M D) : Type 0 where
    pub page : PageNumber
    pub room : ℕ
    pub answer : Handed
    pub is : answer.receipt ≡ n
    pub run : RunTo (asked_again page room answer ++ h) y

  abbrev pub GetsAgain : Exchange M D → ReceiptNumbers → Exchange M D → Type 0
  GetsAgain x n y = (h : promises.History) → RunTo h x → AskedOn n h y

  -- both: the receipt that the sync answered, and the one that the replay answered after it
  pub record AnsweredTwice (bs : List ℕ) (held again : ReceiptNumbers) (y : Exchange M D) : Type 0 where
    pub number : CommandNumber
    pub ticket : TicketNumbers
    pub room : ℕ
    pub first : Handed
    pub is_held : first.receipt ≡ held
    pub on : AskedOn again (synced ticket room first ++ sent bs number ticket) y
