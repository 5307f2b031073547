-- The exchange on paper: its state, the events (a call, what it was given and what it answered), and what each event does.
-- Assumes nothing.
use Rattle.std.specs.Prelude.{◌≡◌, ℕ, zero, suc, ◌+◌, ◌-◌, ◌*◌, max, Bool, true, false, cond, not, ◌&&◌, ◌||◌, ◌⊎◌, List, [], ◌∷◌, ◌++◌, length, Some, None, Ok, Err, Option, Result, ◌==◌, ◌≢◌, nat_le, nat_lt}
use Rattle.records.specs.Commands.{decoded}
use Rattle.records.specs.Notices.{counted}
use Rattle.records.specs.Pages.{page_of, decoded_page}
use Rattle.records.specs.declared.commands.Command.{Command}
use Rattle.records.specs.declared.notices.Notice.{Notice}
use Rattle.records.specs.declared.headers.Header.{Header}
use Rattle.records.specs.declared.numbers.HouseNumber.{HouseNumber}
use Rattle.records.specs.declared.numbers.CommandNumber.{CommandNumber}
use Rattle.records.specs.declared.numbers.PageNumber.{PageNumber}
use Rattle.records.specs.declared.refusals.Refusal.{Refusal}
use Rattle.records.specs.declared.refusals.Refusal.TheVariants.{NoHouse, DeviceSize, WrongPhase, NotACommand, PageFull, NumbersSpent, NothingStaged, JournalFull, ShortList, WrongTicket, WrongReceipt, AlreadyCovered, Undelivered, PastTheEnd, NoHeader}
use Rattle.device.specs.Meaning.{Meaning, Lawful, Reading, bytes, torn}
use Rattle.device.specs.Runs.{Ran, CutIn}
use Rattle.device.specs.declared.run.Operation.{Operation}
use Rattle.device.specs.declared.run.Operation.TheVariants as op
use Rattle.journal.specs.Places.{size_good, journal}
use Rattle.journal.specs.Slots.{other, header_place, body_place}
use Rattle.journal.specs.Choices.{own_header_in, first_of}
use Rattle.journal.specs.declared.slots.Slot.{Slot}
use Rattle.journal.specs.declared.slots.Slot.TheVariants.{Zero, One}
use Rattle.journal.specs.declared.choosing.SlotHeader.{SlotHeader}
use Rattle.protocol.specs.declared.phases.Phase.{Phase}
use Rattle.protocol.specs.declared.phases.Phase.TheVariants.{Live, Written, Dark, Replaying}
use Rattle.protocol.specs.declared.tokens.TicketNumbers.{TicketNumbers}
use Rattle.protocol.specs.declared.tokens.ReceiptNumbers.{ReceiptNumbers}
use Rattle.protocol.specs.declared.faults.ExchangeFault.{ExchangeFault}
use Rattle.protocol.specs.Faults.{plain, cut_at, torn_at, refused_at, other_last_at, bad_page_at, first_fit}
use Rattle.protocol.specs.Worlds.{N, Rules, World, Fits, blank, after, given, page_head, page_image, looks, sector, header_image, part, body_at}

-- the last notice of a receipt: one below its first where it has none
abbrev pub last_notice : ReceiptNumbers → ℕ
last_notice r = r.notice.0 + r.notices - 1

-- what sync and replay hand out
pub record Handed : Type 0 where
  pub receipt : ReceiptNumbers
  pub notices : List Notice

-- A call, what it was given and what it answered. Sync and replay are lent a list for so many notices.
pub data Event : Type 0 where
  Stage : List ℕ → Result CommandNumber ExchangeFault → Event
  Write : Result TicketNumbers ExchangeFault → Event
  Sync : TicketNumbers → ℕ → Result Handed ExchangeFault → Event
  Deliver : ReceiptNumbers → Result (Unit {0}) ExchangeFault → Event
  Shelve : ReceiptNumbers → Event
  Snapshot : Result (Unit {0}) ExchangeFault → Event
  Restart : Event
  Open : Result PageNumber ExchangeFault → Event
  Replay : ℕ → Result (Option Handed) ExchangeFault → Event

-- An exchange: its fixed house number, its phase, the staged commands, how many pages, commands and notices there are, the
-- delivered mark, the page that a snapshot covers and its slot, the market's state and what the device means.
pub record State (S : Type 0) : Type 0 where
  pub house : HouseNumber
  pub phase : Phase
  pub staged : List Command
  pub pages : ℕ
  pub commands : ℕ
  pub notices : ℕ
  pub mark : ℕ
  pub covered : ℕ
  pub slot : Slot
  pub market : S
  pub device : Meaning

abbrev pub phase_number : Phase → ℕ
phase_number Live = 0
phase_number Written = 1
phase_number Dark = 2
phase_number Replaying = 3

abbrev pub not_in : Phase → Phase → Bool
not_in p q = not (phase_number p == phase_number q)

abbrev pub is_none : {X : Type 0} → Option X → Bool
is_none None = true
is_none (Some x) = false

-- no reason fits
abbrev pub Allowed : List (Bool × Refusal) → Type 0
Allowed rs = first_fit rs ≡ None

-- zeros written to the n sectors from s on
abbrev pub blanks : ℕ → ℕ → List Operation
blanks s zero = []
blanks s (suc n) = op.Write s blank ∷ blanks (suc s) n

-- a sync, a wake with its sync, the two headers read, and a slot's body read
abbrev pub sync_ops : List Operation
sync_ops = op.Sync ∷ []

abbrev pub wake_ops : List Operation
wake_ops = op.Wake ∷ op.Sync ∷ []

abbrev pub header_reads : List Operation
header_reads = op.Read (header_place Zero) ∷ op.Read (header_place One) ∷ []

abbrev pub body_reads : Slot → List Operation
body_reads t = op.Read (body_at t 0) ∷ op.Read (body_at t 1) ∷ op.Read (body_at t 2) ∷ []

module _ {S : Type 0} (w : World S) where
  -- Reset: dark, nothing staged, all other numbers 0 and the market fresh.
  abbrev pub reset : Meaning → State S
  reset m = record { house = w.house; phase = Dark; staged = []; pages = 0; commands = 0; notices = 0; mark = 0; covered = 0; slot = Zero; market = w.rules.start; device = m }

  -- live with nothing staged and nothing counted: what set up leaves
  abbrev pub set_up : Meaning → State S
  set_up m = record { house = w.house; phase = Live; staged = []; pages = 0; commands = 0; notices = 0; mark = 0; covered = 0; slot = Zero; market = w.rules.start; device = m }

  -- another phase and device
  abbrev pub moved : Phase → Meaning → State S → State S
  moved p m x = record { house = x.house; phase = p; staged = x.staged; pages = x.pages; commands = x.commands; notices = x.notices; mark = x.mark; covered = x.covered; slot = x.slot; market = x.market; device = m }

  -- one command more
  abbrev pub staging : Command → State S → State S
  staging c x = record { house = x.house; phase = x.phase; staged = x.staged ++ (c ∷ []); pages = x.pages; commands = x.commands; notices = x.notices; mark = x.mark; covered = x.covered; slot = x.slot; market = x.market; device = x.device }

  -- a receipt delivered
  abbrev pub delivering : ReceiptNumbers → State S → State S
  delivering r x = record { house = x.house; phase = x.phase; staged = x.staged; pages = x.pages; commands = x.commands; notices = x.notices; mark = max x.mark (last_notice r); covered = x.covered; slot = x.slot; market = x.market; device = x.device }

  -- the other slot covers the last page
  abbrev pub covering : Meaning → State S → State S
  covering m x = record { house = x.house; phase = x.phase; staged = x.staged; pages = x.pages; commands = x.commands; notices = x.notices; mark = x.mark; covered = x.pages; slot = other x.slot; market = x.market; device = m }

  -- a header's counts taken, with the state that its slot's body is of
  abbrev pub taking : Slot → Header → S → Meaning → State S
  taking t h s m = record { house = w.house; phase = Replaying; staged = []; pages = h.page.0; commands = h.commands.0; notices = h.notices.0; mark = h.notices.0; covered = h.page.0; slot = t; market = s; device = m }

  -- a page of commands applied
  abbrev pub applied : Phase → List Command → Meaning → State S → State S
  applied p cs m x = record { house = x.house; phase = p; staged = []; pages = suc x.pages; commands = x.commands + length cs; notices = x.notices + length (given w x.market cs); mark = x.mark; covered = x.covered; slot = x.slot; market = after w x.market cs; device = m }

  -- the receipt and the notices of a page of commands that follows so many pages, commands and notices, at a market's state
  abbrev pub receipt : ℕ → ℕ → ℕ → S → List Command → ReceiptNumbers
  receipt pages commands notices s cs = record { house = w.house; page = record { 0 = suc pages }; first = record { 0 = suc commands }; commands = length cs; notice = record { 0 = suc notices }; notices = length (given w s cs) }

  abbrev pub handed : ℕ → S → List Command → List Notice
  handed notices s cs = counted notices (given w s cs)

  -- the next page, and its sector
  abbrev pub next_page : State S → List ℕ
  next_page x = page_image w (suc x.pages) (suc x.commands) x.staged

  abbrev pub next_sector : State S → ℕ
  next_sector x = sector w (suc x.pages)

  -- the device calls of each call of the exchange
  abbrev pub write_ops : State S → List Operation
  write_ops x = op.Write (next_sector x) (next_page x) ∷ []

  abbrev pub read_ops : State S → List Operation
  read_ops x = op.Read (next_sector x) ∷ []

  abbrev pub body_ops : Slot → S → List Operation
  body_ops t s = op.Write (body_at t 0) (part w s 0) ∷ op.Write (body_at t 1) (part w s 1) ∷ op.Write (body_at t 2) (part w s 2) ∷ []

  abbrev pub seal_ops : Slot → ℕ → ℕ → ℕ → List Operation
  seal_ops t pages commands notices = op.Sync ∷ op.Write (header_place t) (header_image w pages commands notices) ∷ op.Sync ∷ []

  abbrev pub snapshot_ops : State S → List Operation
  snapshot_ops x = body_ops (other x.slot) x.market ++ seal_ops (other x.slot) x.pages x.commands x.notices

  abbrev pub set_up_ops : List Operation
  set_up_ops = op.Wake ∷ op.Write 0 blank ∷ op.Write 4 blank ∷ (blanks 8 (journal w.size) ++ (body_ops Zero w.rules.start ++ seal_ops Zero 0 0 0))

  -- the good header that a slot shows, and the first in rank of both
  abbrev pub shown : Reading → Option Header
  shown torn = None
  shown (bytes b) = own_header_in w.house w.rules.code b

  abbrev pub header_of : Meaning → Slot → Option Header
  header_of m t = shown (m.reads (header_place t))

  abbrev pub first_header : Meaning → Option SlotHeader
  first_header m = first_of (header_of m Zero) (header_of m One)

  -- what is loaded of a body: the state, or what is wrong with it. The first torn sector is told, or else the body's first.
  abbrev pub last_checked : ℕ → ℕ → S → Result S ExchangeFault
  last_checked at commands s = cond (w.rules.count s == commands) (Ok s) (Err (other_last_at at))

  abbrev pub taken : ℕ → ℕ → Option S → Result S ExchangeFault
  taken at commands None = Err (refused_at at)
  taken at commands (Some s) = last_checked at commands s

  abbrev pub loaded_from : ℕ → ℕ → Reading → Reading → Reading → Result S ExchangeFault
  loaded_from at commands torn y z = Err (torn_at at)
  loaded_from at commands (bytes a) torn z = Err (torn_at (at + 1))
  loaded_from at commands (bytes a) (bytes b) torn = Err (torn_at (at + 2))
  loaded_from at commands (bytes a) (bytes b) (bytes c) = taken at commands (w.rules.loads (a ++ (b ++ c)))

  abbrev pub loaded : Meaning → SlotHeader → Result S ExchangeFault
  loaded m h = loaded_from (body_place h.slot) h.header.commands.0 (m.reads (body_at h.slot 0)) (m.reads (body_at h.slot 1)) (m.reads (body_at h.slot 2))

  -- The reasons of each call, in their order. A device of a size that neither set up nor open takes has no sector for a page
  -- or a snapshot.
  abbrev pub no_place : Bool
  no_place = not (size_good w.size)

  abbrev pub open_reasons : State S → List (Bool × Refusal)
  open_reasons x = ((w.house.0 == 0), NoHouse) ∷ (not (size_good w.size), DeviceSize) ∷ (not_in Dark x.phase, WrongPhase) ∷ []

  abbrev pub stage_reasons : State S → List ℕ → List (Bool × Refusal)
  stage_reasons x bs = (not_in Live x.phase, WrongPhase) ∷ (is_none (decoded bs), NotACommand) ∷ (nat_le 16 (length x.staged), PageFull) ∷ (nat_le N (x.commands + length x.staged), NumbersSpent) ∷ []

  abbrev pub write_reasons : State S → List (Bool × Refusal)
  write_reasons x = (not_in Live x.phase, WrongPhase) ∷ ((length x.staged == 0), NothingStaged) ∷ (nat_lt (x.covered + journal w.size) (suc x.pages), JournalFull) ∷ (no_place, PastTheEnd) ∷ []

  abbrev pub sync_reasons : State S → TicketNumbers → ℕ → List (Bool × Refusal)
  sync_reasons x t room = (not_in Written x.phase, WrongPhase) ∷ (nat_lt room (64 * length x.staged), ShortList) ∷ (not (t.house.0 == w.house.0 && t.page.0 == suc x.pages), WrongTicket) ∷ []

  abbrev pub deliver_reasons : State S → ReceiptNumbers → List (Bool × Refusal)
  deliver_reasons x r = (not (r.house.0 == w.house.0) || (nat_lt (suc x.mark) r.notice.0 || nat_lt x.notices (last_notice r)), WrongReceipt) ∷ []

  abbrev pub snapshot_reasons : State S → List (Bool × Refusal)
  snapshot_reasons x = (not_in Live x.phase, WrongPhase) ∷ ((x.covered == x.pages), AlreadyCovered) ∷ (nat_lt x.mark x.notices, Undelivered) ∷ (no_place, PastTheEnd) ∷ []

  abbrev pub replay_reasons : State S → ℕ → List (Bool × Refusal)
  replay_reasons x room = (not_in Replaying x.phase, WrongPhase) ∷ (nat_lt room 1024, ShortList) ∷ (no_place, PastTheEnd) ∷ []

  -- what each call does where it is allowed and nothing is cut
  pub record Staged (x : State S) (bs : List ℕ) (n : CommandNumber) (x' : State S) : Type 0 where
    pub allowed : Allowed (stage_reasons x bs)
    pub command : Command
    pub is : decoded bs ≡ Some command
    pub number : n ≡ record { 0 = suc (x.commands + length x.staged) }
    pub result : x' ≡ staging command x

  pub record Wrote (x : State S) (t : TicketNumbers) (x' : State S) : Type 0 where
    pub allowed : Allowed (write_reasons x)
    pub ticket : t ≡ record { house = w.house; page = record { 0 = suc x.pages } }
    pub device : Meaning
    pub did : Ran x.device (write_ops x) device
    pub result : x' ≡ moved Written device x

  pub record Synced (x : State S) (t : TicketNumbers) (room : ℕ) (h : Handed) (x' : State S) : Type 0 where
    pub allowed : Allowed (sync_reasons x t room)
    pub device : Meaning
    pub did : Ran x.device sync_ops device
    pub answer : h.receipt ≡ receipt x.pages x.commands x.notices x.market x.staged
    pub notices : h.notices ≡ handed x.notices x.market x.staged
    pub result : x' ≡ applied Live x.staged device x

  pub record Delivered (x : State S) (r : ReceiptNumbers) (x' : State S) : Type 0 where
    pub allowed : Allowed (deliver_reasons x r)
    pub result : x' ≡ delivering r x

  pub record Snapshotted (x : State S) (x' : State S) : Type 0 where
    pub allowed : Allowed (snapshot_reasons x)
    pub device : Meaning
    pub did : Ran x.device (snapshot_ops x) device
    pub result : x' ≡ covering device x

  -- what is read after the wake and the sync decides
  pub record Opened (x : State S) (p : PageNumber) (x' : State S) : Type 0 where
    pub allowed : Allowed (open_reasons x)
    pub device : Meaning
    pub did : Ran x.device wake_ops device
    pub first : SlotHeader
    pub chosen : first_header device ≡ Some first
    pub market : S
    pub load : loaded device first ≡ Ok market
    pub answer : p ≡ first.header.page
    pub result : x' ≡ taking first.slot first.header market device

  -- the sector of the next page is read
  pub record Replayed (x : State S) (room : ℕ) (h : Handed) (x' : State S) : Type 0 where
    pub allowed : Allowed (replay_reasons x room)
    pub did : Ran x.device (read_ops x) x.device
    pub content : List ℕ
    pub there : x.device.reads (next_sector x) ≡ bytes content
    pub looks : looks w content (suc x.pages) ≡ true
    pub page : List Command
    pub good : decoded_page content ≡ Some (page_of (page_head w (suc x.pages) (suc x.commands)) page)
    pub answer : h.receipt ≡ receipt x.pages x.commands x.notices x.market page
    pub notices : h.notices ≡ handed x.notices x.market page
    pub result : x' ≡ applied Replaying page x.device x

  pub record CaughtUp (x : State S) (room : ℕ) (x' : State S) : Type 0 where
    pub allowed : Allowed (replay_reasons x room)
    pub did : Ran x.device (read_ops x) x.device
    pub nothing : (b : List ℕ) → x.device.reads (next_sector x) ≡ bytes b → looks w b (suc x.pages) ≡ false
    pub result : x' ≡ moved Live x.device x

  -- A call that answers a fault: the first reason that fits, and nothing has changed; or it was allowed, and what then went
  -- wrong resets the exchange.
  pub data Fails (rs : List (Bool × Refusal)) (Why : ExchangeFault → Meaning → Type 0) (f : ExchangeFault) (x x' : State S) : Type 0 where
    refused : (r : Refusal) → first_fit rs ≡ Some r → f ≡ plain r → x' ≡ x → Fails rs Why f x x'
    broke : Allowed rs → (m : Meaning) → Lawful m → Why f m → x' ≡ reset m → Fails rs Why f x x'

  -- nothing can go wrong
  abbrev pub NothingElse : ExchangeFault → Meaning → Type 0
  NothingElse f m = ⊥

  -- one of these device calls was cut, and the fault tells which sector it asked
  abbrev pub CutShort : Meaning → List Operation → ExchangeFault → Meaning → Type 0
  CutShort before ops f m = (s : ℕ) × (f ≡ cut_at s) × CutIn before ops s m

  -- an opening that is cut: up to the reading of the headers, or in the reading of the body of the header that it then chose
  pub data OpenCut (m : Meaning) (s : ℕ) (n : Meaning) : Type 0 where
    early : CutIn m (wake_ops ++ header_reads) s n → OpenCut m s n
    in_body : (k : Meaning) → Ran m wake_ops k → (h : SlotHeader) → first_header k ≡ Some h → CutIn k (body_reads h.slot) s n → OpenCut m s n

  -- no good header can be read; the chosen body is torn, refused or of another command; the page looked for is not the next one
  abbrev pub NoHeaderFound : State S → ExchangeFault → Meaning → Type 0
  NoHeaderFound x f m = (f ≡ plain NoHeader) × Ran x.device wake_ops m × (first_header m ≡ None)

  abbrev pub BadBody : State S → ExchangeFault → Meaning → Type 0
  BadBody x f m = Ran x.device wake_ops m × ((h : SlotHeader) × (first_header m ≡ Some h) × (loaded m h ≡ Err f))

  pub record BadPage (x : State S) (f : ExchangeFault) (m : Meaning) : Type 0 where
    pub fault : f ≡ bad_page_at (next_sector x)
    pub same : m ≡ x.device
    pub did : Ran x.device (read_ops x) m
    pub content : List ℕ
    pub there : x.device.reads (next_sector x) ≡ bytes content
    pub looks : looks w content (suc x.pages) ≡ true
    pub bad : (cs : List Command) → decoded_page content ≢ Some (page_of (page_head w (suc x.pages) (suc x.commands)) cs)

  abbrev pub OpenFails : State S → ExchangeFault → Meaning → Type 0
  OpenFails x f m = ((s : ℕ) × (f ≡ cut_at s) × OpenCut x.device s m) ⊎ (NoHeaderFound x f m ⊎ BadBody x f m)

  abbrev pub ReplayFails : State S → ExchangeFault → Meaning → Type 0
  ReplayFails x f m = CutShort x.device (read_ops x) f m ⊎ BadPage x f m

  -- what an event does, by its call and its answer
  abbrev pub Step : State S → Event → State S → Type 0
  Step x (Stage bs (Ok n)) x' = Staged x bs n x'
  Step x (Stage bs (Err f)) x' = Fails (stage_reasons x bs) NothingElse f x x'
  Step x (Write (Ok t)) x' = Wrote x t x'
  Step x (Write (Err f)) x' = Fails (write_reasons x) (CutShort x.device (write_ops x)) f x x'
  Step x (Sync t room (Ok h)) x' = Synced x t room h x'
  Step x (Sync t room (Err f)) x' = Fails (sync_reasons x t room) (CutShort x.device sync_ops) f x x'
  Step x (Deliver r (Ok _)) x' = Delivered x r x'
  Step x (Deliver r (Err f)) x' = Fails (deliver_reasons x r) NothingElse f x x'
  Step x (Shelve r) x' = x' ≡ x
  Step x (Snapshot (Ok _)) x' = Snapshotted x x'
  Step x (Snapshot (Err f)) x' = Fails (snapshot_reasons x) (CutShort x.device (snapshot_ops x)) f x x'
  Step x Restart x' = x' ≡ reset x.device
  Step x (Open (Ok p)) x' = Opened x p x'
  Step x (Open (Err f)) x' = Fails (open_reasons x) (OpenFails x) f x x'
  Step x (Replay room (Ok (Some h))) x' = Replayed x room h x'
  Step x (Replay room (Ok None)) x' = CaughtUp x room x'
  Step x (Replay room (Err f)) x' = Fails (replay_reasons x room) (ReplayFails x) f x x'

  -- just set up, over a device that meant anything before
  pub record SetUp (earlier : Meaning) (x : State S) : Type 0 where
    pub fits : Fits w
    pub size : earlier.size ≡ w.size
    pub device : Meaning
    pub did : Ran earlier set_up_ops device
    pub result : x ≡ set_up device

-- the world of an exchange, whose market works by these rules
abbrev pub world_of : {S : Type 0} → Rules S → State S → World S
world_of r x = record { house = x.house; size = x.device.size; rules = r }

module _ {S : Type 0} (r : Rules S) where
  -- The contract of a call: from the state x this call gives this answer, and leaves the state x'.
  abbrev pub Does : State S → Event → State S → Type 0
  Does x e x' = Step (world_of r x) x e x'

  -- The contract of set up. It is no event: a history begins with it.
  abbrev pub SetsUp : State S → Result (Unit {0}) ExchangeFault → State S → Type 0
  SetsUp x (Ok _) x' = Allowed (open_reasons (world_of r x) x) × SetUp (world_of r x) x.device x'
  SetsUp x (Err f) x' = Fails (world_of r x) (open_reasons (world_of r x) x) (CutShort (world_of r x) x.device (set_up_ops (world_of r x))) f x x'
