-- What is kept while a log is read.
use Rattle.std.specs.Prelude.{◌≡◌, ℕ, Bool, true, false, ◌∷◌, Some, None, Ok, Err, Option, Result, vec_items, Decides}
use Rattle.records.specs.declared.numbers.HouseNumber.{HouseNumber}
use Rattle.market.specs.declared.interface.Market as market
use Rattle.protocol.specs.declared.faults.ExchangeFault.{ExchangeFault}
use Rattle.protocol.specs.Steps.{Event, Stage, Write, Sync, Deliver, Shelve, Snapshot, Restart, Open, Replay}
use Rattle.protocol.specs.Promises as promises
use Rattle.runner.specs.declared.log.Entry.{Entry}
use Rattle.runner.specs.Events.{event_of, noted}
use Rattle.audit.specs.UnderWay.{under_way, Serves}
use Rattle.audit.specs.Delivered.{delivered_in}
use Rattle.audit.specs.Books.{world, IsBook}
use Rattle.audit.specs.declared.readings.SentPage.{SentPage}
use Rattle.audit.specs.declared.readings.Reader.{Reader}

-- the sent page
abbrev pub sent_of : Option SentPage → Option promises.Sent
sent_of None = None
sent_of (Some s) = Some (record { number = s.number; page = vec_items s.page })

module _ {M : Type 0} (m : market.Ghosts M) where
  -- A reader has read this history: it has the record as a book, the draft, the sent page, the highest delivered notice, the
  -- receipts that deliver kept, all notices that were handed out, the openings under way, and whether each that reached live
  -- had handed out what was awaited.
  pub record Reads (house : HouseNumber) (size : ℕ) (h : promises.History) (r : Reader M) : Type 0 where
    pub book : IsBook m house size (promises.recorded h) r.book
    pub draft : vec_items r.draft ≡ (promises.ledger h).draft
    pub sent : sent_of r.sent ≡ (promises.ledger h).sent
    pub highest : r.highest ≡ promises.highest_delivered h
    pub delivered : vec_items r.delivered ≡ delivered_in h
    pub handed : vec_items r.handed ≡ promises.handed_out h
    pub openings : vec_items r.openings ≡ under_way h
    pub served : Decides r.served (Serves (world m house size) h)

  -- what was read goes on by an event
  abbrev pub ReadOn : Event → Reader M → Reader M → Type 0
  ReadOn e r q = (house : HouseNumber) (size : ℕ) (h : promises.History) → Reads house size h r → Reads house size (e ∷ h) q

  -- by an entry of a log: by nothing, where no call was made
  abbrev pub ReadEntry : Entry → Reader M → Reader M → Type 0
  ReadEntry e r q = (house : HouseNumber) (size : ℕ) (h : promises.History) → Reads house size h r → Reads house size (noted (event_of e) h) q

abbrev pub cut_answer : {X : Type 0} → Result X ExchangeFault → Bool
cut_answer (Ok x) = false
cut_answer (Err f) = promises.is_cut f

-- a restart, or a 15 of any call but write: the draft empties, and openings end
abbrev pub breaks : Event → Bool
breaks (Stage bs a) = cut_answer a
breaks (Write a) = false
breaks (Sync t room a) = cut_answer a
breaks (Deliver r a) = cut_answer a
breaks (Shelve r) = false
breaks (Snapshot a) = cut_answer a
breaks Restart = true
breaks (Open a) = cut_answer a
breaks (Replay room a) = cut_answer a

-- a call other than write, refused so
abbrev pub Refused : Event → ExchangeFault → Type 0
Refused (Stage bs a) f = a ≡ Err f
Refused (Write a) f = ⊥
Refused (Sync t room a) f = a ≡ Err f
Refused (Deliver r a) f = a ≡ Err f
Refused (Shelve r) f = ⊥
Refused (Snapshot a) f = a ≡ Err f
Refused Restart f = ⊥
Refused (Open a) f = a ≡ Err f
Refused (Replay room a) f = a ≡ Err f
