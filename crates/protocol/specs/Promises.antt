-- The record, which is kept from calls and answers alone, and the promises over every run. Assumes nothing.
use Rattle.std.specs.Prelude.{◌≡◌, ℕ, suc, ◌<◌, ◌≤◌, max, Bool, cond, ◌&&◌, ◌⊎◌, List, [], ◌∷◌, ◌++◌, length, Some, None, Ok, Err, Option, Result, ◌==◌, ◌≢◌, nat_lt}
use mathlib.Core.List.{Memᴰ}
use Rattle.records.specs.Commands.{decoded}
use Rattle.records.specs.Notices.{counted}
use Rattle.records.specs.declared.commands.Command.{Command}
use Rattle.records.specs.declared.notices.Notice.{Notice}
use Rattle.records.specs.declared.numbers.PageNumber.{PageNumber}
use Rattle.device.specs.Meaning.{Meaning}
use Rattle.protocol.specs.declared.phases.Phase.TheVariants.{Live}
use Rattle.protocol.specs.declared.tokens.ReceiptNumbers.{ReceiptNumbers}
use Rattle.protocol.specs.declared.faults.ExchangeFault.{ExchangeFault}
use Rattle.protocol.specs.Faults.{reason_of}
use Rattle.protocol.specs.Worlds.{Rules, World, after, given}
use Rattle.protocol.specs.Steps.{State, Handed, Event, Stage, Write, Sync, Deliver, Shelve, Snapshot, Restart, Open, Replay, last_notice, receipt, handed, SetUp, world_of, Does}

-- A history is the list of the events since set-up, the latest first.
abbrev pub History : Type 0
History = List Event

-- pages of commands, and all their commands in a row
abbrev pub Pages : Type 0
Pages = List (List Command)

abbrev pub flat : Pages → List Command
flat [] = []
flat (p ∷ ps) = p ++ flat ps

-- the page that was sent to the device last, with its number
pub record Sent : Type 0 where
  pub number : ℕ
  pub page : List Command

-- The record's pages, the draft, the sent page, and the greatest last notice in receipts that deliver kept, or 0.
pub record Ledger : Type 0 where
  pub kept : Pages
  pub draft : List Command
  pub sent : Option Sent
  pub highest : ℕ

-- a receipt with the sent page's number adds that page whole at the record's end, if not there yet
abbrev pub added : ℕ → Option Sent → Pages → Pages
added p None kept = kept
added p (Some s) kept = cond (p == s.number && nat_lt (length kept) s.number) (kept ++ (s.page ∷ [])) kept

abbrev pub with_command : Option Command → List Command → List Command
with_command None draft = draft
with_command (Some c) draft = draft ++ (c ∷ [])

-- stage answered a number: its command joins the draft
abbrev pub drafts : List ℕ → Ledger → Ledger
drafts bs l = record { kept = l.kept; draft = with_command (decoded bs) l.draft; sent = l.sent; highest = l.highest }

-- write answered a ticket or 15: the draft is the sent page, numbered one above the record's pages, and empties
abbrev pub sends : Ledger → Ledger
sends l = record { kept = l.kept; draft = []; sent = Some (record { number = suc (length l.kept); page = l.draft }); highest = l.highest }

-- sync or replay answered a receipt
abbrev pub answered : Handed → Ledger → Ledger
answered h l = record { kept = added h.receipt.page.0 l.sent l.kept; draft = l.draft; sent = l.sent; highest = l.highest }

-- deliver kept a receipt
abbrev pub delivers : ReceiptNumbers → Ledger → Ledger
delivers r l = record { kept = l.kept; draft = l.draft; sent = l.sent; highest = max l.highest (last_notice r) }

-- restart, or any 15: the draft empties
abbrev pub empties : Ledger → Ledger
empties l = record { kept = l.kept; draft = []; sent = l.sent; highest = l.highest }

abbrev pub is_cut : ExchangeFault → Bool
is_cut f = reason_of f == 15

abbrev pub empties_if_cut : ExchangeFault → Ledger → Ledger
empties_if_cut f l = cond (is_cut f) (empties l) l

-- what an event changes; nothing else changes anything
abbrev pub note : Event → Ledger → Ledger
note (Stage bs (Ok n)) l = drafts bs l
note (Stage bs (Err f)) l = empties_if_cut f l
note (Write (Ok t)) l = sends l
note (Write (Err f)) l = cond (is_cut f) (sends l) l
note (Sync t room (Ok h)) l = answered h l
note (Sync t room (Err f)) l = empties_if_cut f l
note (Deliver r (Ok _)) l = delivers r l
note (Deliver r (Err f)) l = empties_if_cut f l
note (Shelve r) l = l
note (Snapshot (Ok _)) l = l
note (Snapshot (Err f)) l = empties_if_cut f l
note Restart l = empties l
note (Open (Ok p)) l = l
note (Open (Err f)) l = empties_if_cut f l
note (Replay room (Ok (Some h))) l = answered h l
note (Replay room (Ok None)) l = l
note (Replay room (Err f)) l = empties_if_cut f l

-- At set-up record, draft and sent page are empty.
abbrev pub ledger : History → Ledger
ledger [] = record { kept = []; draft = []; sent = None; highest = 0 }
ledger (e ∷ h) = note e (ledger h)

-- the record of a history, and its highest delivered notice
abbrev pub recorded : History → Pages
recorded h = (ledger h).kept

abbrev pub highest_delivered : History → ℕ
highest_delivered h = (ledger h).highest

-- no restart and no 15
abbrev pub Uncut : {X : Type 0} → Result X ExchangeFault → Type 0
Uncut (Ok x) = Unit {0}
Uncut (Err f) = reason_of f ≡ 15 → ⊥

abbrev pub CalmEvent : Event → Type 0
CalmEvent (Stage bs a) = Uncut a
CalmEvent (Write a) = Uncut a
CalmEvent (Sync t room a) = Uncut a
CalmEvent (Deliver r a) = Uncut a
CalmEvent (Shelve r) = Unit {0}
CalmEvent (Snapshot a) = Uncut a
CalmEvent Restart = ⊥
CalmEvent (Open a) = Uncut a
CalmEvent (Replay room a) = Uncut a

abbrev pub Calm : History → Type 0
Calm [] = Unit {0}
Calm (e ∷ h) = CalmEvent e × Calm h

-- the notices that came with receipts
abbrev pub handed_by : Event → List Notice
handed_by (Stage bs a) = []
handed_by (Write a) = []
handed_by (Sync t room (Ok h)) = h.notices
handed_by (Sync t room (Err f)) = []
handed_by (Deliver r a) = []
handed_by (Shelve r) = []
handed_by (Snapshot a) = []
handed_by Restart = []
handed_by (Open a) = []
handed_by (Replay room (Ok (Some h))) = h.notices
handed_by (Replay room (Ok None)) = []
handed_by (Replay room (Err f)) = []

abbrev pub handed_out : History → List Notice
handed_out [] = []
handed_out (e ∷ h) = handed_out h ++ handed_by e

-- the notice number n lies in a receipt that deliver kept
pub record DeliveredIn (n : ℕ) (h : History) : Type 0 where
  pub receipt : ReceiptNumbers
  pub kept : Memᴰ (Deliver receipt (Ok tt)) h
  pub first : receipt.notice.0 ≤ n
  pub last : n ≤ last_notice receipt

-- not 17, 18 or 19
abbrev pub Recovers : ExchangeFault → Type 0
Recovers f = (reason_of f ≢ 17) × (reason_of f ≢ 18) × (reason_of f ≢ 19)

-- the record has not grown, or has grown by the sent page, whole
abbrev pub Grew : Ledger → Ledger → Type 0
Grew l l' = (l'.kept ≡ l.kept) ⊎ ((s : Sent) × (l.sent ≡ Some s) × (l'.kept ≡ l.kept ++ (s.page ∷ [])))

module _ {S : Type 0} (w : World S) where
  -- the fresh market over pages: its state, how many notices, and the notices, numbered from 1
  abbrev pub market_after : Pages → S
  market_after ps = after w w.rules.start (flat ps)

  abbrev pub notices_count : Pages → ℕ
  notices_count ps = length (given w w.rules.start (flat ps))

  abbrev pub record_notices : Pages → List Notice
  record_notices ps = counted 0 (given w w.rules.start (flat ps))

  -- A receipt is the record's for its page, and so are the notices that came with it: it has the house number, the page's
  -- number, first command and first notice one above the earlier pages' totals, and the page's own counts.
  pub record OfRecord (kept : Pages) (h : Handed) : Type 0 where
    pub earlier : Pages
    pub page : List Command
    pub later : Pages
    pub split : kept ≡ earlier ++ (page ∷ later)
    pub receipt : h.receipt ≡ receipt w (length earlier) (length (flat earlier)) (notices_count earlier) (market_after earlier) page
    pub notices : h.notices ≡ handed w (notices_count earlier) (market_after earlier) page

  -- what is promised of an event of a history with this record
  abbrev pub Kept : Pages → Event → Type 0
  Kept kept (Stage bs a) = Unit {0}
  Kept kept (Write a) = Unit {0}
  Kept kept (Sync t room (Ok h)) = OfRecord kept h
  Kept kept (Sync t room (Err f)) = Unit {0}
  Kept kept (Deliver r a) = Unit {0}
  Kept kept (Shelve r) = Unit {0}
  Kept kept (Snapshot a) = Unit {0}
  Kept kept Restart = Unit {0}
  Kept kept (Open (Ok p)) = Unit {0}
  Kept kept (Open (Err f)) = Recovers f
  Kept kept (Replay room (Ok (Some h))) = OfRecord kept h
  Kept kept (Replay room (Ok None)) = Unit {0}
  Kept kept (Replay room (Err f)) = Recovers f

  abbrev pub EachKept : Pages → History → Type 0
  EachKept kept [] = Unit {0}
  EachKept kept (e ∷ h) = Kept kept e × EachKept kept h

  -- the counts are those of these pages, and the market is the fresh one run over exactly these
  pub record RunsOver (ps : Pages) (x : State S) : Type 0 where
    pub pages : x.pages ≡ length ps
    pub commands : x.commands ≡ length (flat ps)
    pub notices : x.notices ≡ notices_count ps
    pub market : x.market ≡ market_after ps

  -- The promises of a history that led to the state x.
  pub record Promises (h : History) (x : State S) : Type 0 where
    -- receipts and notices last: each that was ever answered is the record's, and open and replay never answer 17, 18 or 19
    pub lasting : EachKept (recorded h) h
    -- a live exchange has the record's counts, and its market is the fresh one run over exactly the record
    pub live : x.phase ≡ Live → RunsOver (recorded h) x
    -- every event adds at most the sent page, whole
    pub growth : (later before : History) (e : Event) → h ≡ later ++ (e ∷ before) → Grew (ledger before) (ledger (e ∷ before))
    -- nothing awaited is lost: an opening that reaches live has handed out every notice of the record above the highest
    -- delivered before it
    pub openings : (later since before : History) (room : ℕ) (p : PageNumber) → h ≡ later ++ (Replay room (Ok None) ∷ (since ++ (Open (Ok p) ∷ before))) → Calm since →
        (n : Notice) → Memᴰ n (record_notices (recorded (since ++ (Open (Ok p) ∷ before)))) → highest_delivered before < n.number.0 → Memᴰ n (handed_out since)
    -- no gap: every notice number up to the highest delivered lies in a receipt that deliver kept
    pub no_gap : (n : ℕ) → 1 ≤ n → n ≤ highest_delivered h → DeliveredIn n h

module _ {S : Type 0} (r : Rules S) where
  -- a history that the calls allow, from a set-up exchange to the state x: each call from the state that the last one left
  abbrev pub Run : History → State S → Type 0
  Run [] x = (earlier : Meaning) × SetUp (world_of r x) earlier x
  Run (e ∷ h) x' = (x : State S) × Run h x × Does r x e x'

  abbrev pub Promised : History → State S → Type 0
  Promised h x = Promises (world_of r x) h x

  -- every history that the calls allow keeps the promises
  abbrev pub PromisesHold : Type 0
  PromisesHold = (h : History) (x : State S) → Run h x → Promised h x
