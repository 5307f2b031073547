-- A reader, one event further.
use Rattle.std.proofs.Common.{OnOk, Result, ◌≡◌, ℕ, Bool, true, ◌∷◌, ◌++◌, Some, Ok, Err, vec_items, Decides, sym, ap, ◌∙◌, subst}
use Rattle.std.proofs.lemmas.Bool.Decides.{Decides-like}
use Rattle.records.specs.declared.numbers.HouseNumber.{HouseNumber}
use Rattle.market.specs.declared.interface.Market as market
use Rattle.protocol.specs.declared.faults.ExchangeFault.{ExchangeFault}
use Rattle.protocol.specs.declared.tokens.TicketNumbers.{TicketNumbers}
use Rattle.protocol.specs.Steps.{Handed, Event, Stage, Write, Sync, Deliver, Shelve, Snapshot, Restart, Open, Replay}
use Rattle.protocol.specs.Promises.{History, is_cut, added, recorded}
use Rattle.audit.specs.UnderWay.{Serves}
use Rattle.audit.specs.Books.{world, IsBook}
use Rattle.audit.specs.Readings.{sent_of, Reads, ReadOn, ReadEntry, Refused, breaks, cut_answer}
use Rattle.runner.specs.declared.log.Entry.{Entry}
use Rattle.runner.specs.Events.{event_of, noted}
use Rattle.audit.specs.declared.readings.Reader.{Reader}

pub and_nothing : {P : Type 0} (b : Bool) → Decides b P → Decides b (P × Unit {0})
and_nothing b d = Decides-like b (λ p. (p, tt)) (λ z. z.0) d

module _ {M : Type 0} (m : market.Ghosts M) (house : HouseNumber) (size : ℕ) where
  -- the record has a receipt's page, and the notices are handed out
  pub record Answered (a : Handed) (h : History) (r q : Reader M) : Type 0 where
    pub book : IsBook m house size (added a.receipt.page.0 (sent_of r.sent) (recorded h)) q.book
    pub draft : vec_items q.draft ≡ vec_items r.draft
    pub sent : sent_of q.sent ≡ sent_of r.sent
    pub highest : q.highest ≡ r.highest
    pub delivered : vec_items q.delivered ≡ vec_items r.delivered
    pub handed : vec_items q.handed ≡ vec_items r.handed ++ a.notices
    pub openings : vec_items q.openings ≡ vec_items r.openings
    pub served : q.served ≡ r.served

  pub reads_synced : (t : TicketNumbers) (room : ℕ) (a : Handed) (h : History) (r q : Reader M) → Answered a h r q → Reads m house size h r → Reads m house size (Sync t room (Ok a) ∷ h) q
  reads_synced t room a h r q n i = record {
    book = subst (λ z. IsBook m house size (added a.receipt.page.0 z (recorded h)) q.book) i.sent n.book;
    draft = n.draft ∙ i.draft;
    sent = n.sent ∙ i.sent;
    highest = n.highest ∙ i.highest;
    delivered = n.delivered ∙ i.delivered;
    handed = n.handed ∙ ap (λ l. l ++ a.notices) i.handed;
    openings = n.openings ∙ i.openings;
    served = and_nothing q.served (subst (λ b. Decides b (Serves (world m house size) h)) (sym n.served) i.served);
  }

  pub reads_replayed : (room : ℕ) (a : Handed) (h : History) (r q : Reader M) → Answered a h r q → Reads m house size h r → Reads m house size (Replay room (Ok (Some a)) ∷ h) q
  reads_replayed room a h r q n i = record {
    book = subst (λ z. IsBook m house size (added a.receipt.page.0 z (recorded h)) q.book) i.sent n.book;
    draft = n.draft ∙ i.draft;
    sent = n.sent ∙ i.sent;
    highest = n.highest ∙ i.highest;
    delivered = n.delivered ∙ i.delivered;
    handed = n.handed ∙ ap (λ l. l ++ a.notices) i.handed;
    openings = n.openings ∙ i.openings;
    served = and_nothing q.served (subst (λ b. Decides b (Serves (world m house size) h)) (sym n.served) i.served);
  }

pub on_ok : {A B P Q : Type 0} (r : Result A B) → (P → Q) → OnOk r P → OnOk r Q
on_ok (Ok x) f p = f p
on_ok (Err e) f p = p

-- an entry is read as its event
pub read_entry : {M : Type 0} (m : market.Ghosts M) (entry : Entry) (e : Event) (r q : Reader M) → event_of entry ≡ Some e → ReadOn m e r q → ReadEntry m entry r q
read_entry m entry e r q s k house size h i = subst (λ o. Reads m house size (noted o h) q) (sym s) (k house size h i)

pub on_any : {A B P : Type 0} (r : Result A B) → P → OnOk r P
on_any (Ok x) p = p
on_any (Err e) p = tt

-- a refusal with 15 breaks
pub refused_breaks : (e : Event) (f : ExchangeFault) → Refused e f → is_cut f ≡ true → breaks e ≡ true
refused_breaks (Stage bs a) f r c = ap cut_answer r ∙ c
refused_breaks (Write a) f r c = absurd r
refused_breaks (Sync t room a) f r c = ap cut_answer r ∙ c
refused_breaks (Deliver q a) f r c = ap cut_answer r ∙ c
refused_breaks (Shelve q) f r c = absurd r
refused_breaks (Snapshot a) f r c = ap cut_answer r ∙ c
refused_breaks Restart f r c = absurd r
refused_breaks (Open a) f r c = ap cut_answer r ∙ c
refused_breaks (Replay room a) f r c = ap cut_answer r ∙ c
