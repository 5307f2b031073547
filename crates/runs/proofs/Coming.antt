-- What the calls of a page leave as it was, and what they count.
use Rattle.std.proofs.Common.{◌≡◌, ℕ, suc, ◌+◌, ◌-◌, ◌*◌, ◌≤◌, max, ◌⊎◌, inl, inr, Bool, true, false, not, ◌&&◌, eqb, nat_lt, List, [], ◌∷◌, length, vec_items, Some, None, Ok, Err, Option, Result, sym, refl, ap, ◌∙◌, subst, arith}
use Rattle.std.proofs.lemmas.Bool.{eq-eqb, le-ltb}
use Rattle.market.specs.declared.interface.Market as market
use Rattle.device.specs.declared.Device as device
use Rattle.records.specs.Commands.{encoded}
use Rattle.records.specs.declared.commands.Command.{Command}
use Rattle.records.specs.declared.refusals.Refusal.{Refusal}
use Rattle.records.specs.declared.refusals.Refusal.TheVariants.{JournalFull, WrongPhase, ShortList, WrongTicket, PowerCut}
use Rattle.records.specs.Refusals.{reason}
use Rattle.protocol.specs.declared.phases.Phase.{Phase}
use Rattle.protocol.specs.declared.phases.Phase.TheVariants as phase
use Rattle.records.specs.declared.numbers.CommandNumber.{CommandNumber}
use Rattle.records.specs.declared.numbers.PageNumber.{PageNumber}
use Rattle.protocol.specs.declared.faults.ExchangeFault.{ExchangeFault}
use Rattle.protocol.specs.declared.tokens.TicketNumbers.{TicketNumbers}
use Rattle.protocol.specs.declared.tokens.ReceiptNumbers.{ReceiptNumbers}
use Rattle.protocol.specs.Faults.{reason_of, first_fit}
use Rattle.protocol.specs.Steps.{Handed, Stage, Write, Sync, Snapshot, Deliver, Replay, Open, refused, broke, not_in, last_notice}
use Rattle.exchange.specs.declared.state.Exchange.{Exchange}
use Rattle.exchange.specs.Views.{Called}
use Rattle.runs.specs.Pages.{SameCounts, Given, Counted, AllDelivered, NothingWaits, Committed, AllCovered, Written, Delivers, StagedOr}

module _ {M D : Type 0} where
  pub same_self : (x : Exchange M D) → SameCounts x x
  same_self x = record { pages = refl; staged = refl; commands = refl; notices = refl; mark = refl }

  pub same_twice : (x y z : Exchange M D) → SameCounts x y → SameCounts y z → SameCounts x z
  same_twice x y z a b = record { pages = b.pages ∙ a.pages; staged = b.staged ∙ a.staged; commands = b.commands ∙ a.commands; notices = b.notices ∙ a.notices; mark = b.mark ∙ a.mark }

  pub counted_after : (x y z : Exchange M D) (r : ReceiptNumbers) → SameCounts x y → Counted y r z → Counted x r z
  counted_after x y z r a c = record {
    given = record {
      staged = c.given.staged;
      pages = c.given.pages ∙ ap suc a.pages;
      next = c.given.next ∙ ap suc a.notices;
      notices = c.given.notices ∙ ap (λ n. n + r.notices) a.notices;
      mark = c.given.mark ∙ a.mark;
    };
    covers = c.covers ∙ ap length a.staged;
    commands = c.commands ∙ ap (λ n. n + r.commands) a.commands;
  }

module _ {M D : Type 0} (m : market.Ghosts M) (d : device.Ghosts D) where
  pub same_write : (x y : Exchange M D) (t : TicketNumbers) → Called m d x (Write (Ok t)) y → SameCounts x y
  same_write x y t w = record { pages = ap (λ s. s.pages) w.result; staged = ap (λ s. s.staged) w.result; commands = ap (λ s. s.commands) w.result; notices = ap (λ s. s.notices) w.result; mark = ap (λ s. s.mark) w.result }

  pub same_snapshot : (x y : Exchange M D) → Called m d x (Snapshot (Ok tt)) y → SameCounts x y
  same_snapshot x y w = record { pages = ap (λ s. s.pages) w.result; staged = ap (λ s. s.staged) w.result; commands = ap (λ s. s.commands) w.result; notices = ap (λ s. s.notices) w.result; mark = ap (λ s. s.mark) w.result }

  -- a write that found the journal full changed nothing
  pub same_full : (x y : Exchange M D) (f : ExchangeFault) → Called m d x (Write (Err f)) y → f.reason ≡ JournalFull → SameCounts x y
  same_full x y f (refused r p e q) full = record { pages = ap (λ s. s.pages) q; staged = ap (λ s. s.staged) q; commands = ap (λ s. s.commands) q; notices = ap (λ s. s.notices) q; mark = ap (λ s. s.mark) q }
  same_full x y f (broke a k l (s, e, cut) q) full = absurd (let z : ◌≡◌ {A = ℕ} 15 8 = sym (ap reason_of e) ∙ ap reason full in omega arith)

  pub sync_counts : (x y : Exchange M D) (t : TicketNumbers) (room : ℕ) (h : Handed) → Called m d x (Sync t room (Ok h)) y → Counted x h.receipt y
  sync_counts x y t room h s = record {
    given = record {
      staged = ap (λ z. z.staged) s.result;
      pages = ap (λ z. z.pages) s.result;
      next = ap (λ r. r.notice.0) s.answer;
      notices = ap (λ z. z.notices) s.result ∙ ap (λ n. x.notices.0 + n) (sym (ap (λ r. r.notices) s.answer));
      mark = ap (λ z. z.mark) s.result;
    };
    covers = ap (λ r. r.commands) s.answer;
    commands = ap (λ z. z.commands) s.result ∙ ap (λ n. x.commands.0 + n) (sym (ap (λ r. r.commands) s.answer));
  }

  pub replay_gives : (x y : Exchange M D) (room : ℕ) (h : Handed) → Called m d x (Replay room (Ok (Some h))) y → Given x h.receipt y
  replay_gives x y room h s = record {
    staged = ap (λ z. z.staged) s.result;
    pages = ap (λ z. z.pages) s.result;
    next = ap (λ r. r.notice.0) s.answer;
    notices = ap (λ z. z.notices) s.result ∙ ap (λ n. x.notices.0 + n) (sym (ap (λ r. r.notices) s.answer));
    mark = ap (λ z. z.mark) s.result;
  }

  -- a receipt that was given last is delivered, and all before it were: then all are
  pub all_delivered : (x y z : Exchange M D) (r : ReceiptNumbers) → AllDelivered x → Given x r y → Delivers m d y r z → NothingWaits z
  all_delivered x y z r a g e = (ap (λ s. s.staged) e.result ∙ g.staged, at)
    where
      mark : z.mark.0 ≡ max y.mark.0 (last_notice r)
      mark = ap (λ s. s.mark) e.result

      notices : z.notices.0 ≡ y.notices.0
      notices = ap (λ s. s.notices) e.result

      at : z.mark.0 ≡ z.notices.0
      at = let n = g.next in let k = g.notices in let l = g.mark in let before = a in let after = mark in let same = notices in omega arith

  pub delivers_counts : (y z : Exchange M D) (r : ReceiptNumbers) → Delivers m d y r z → (z.commands.0 ≡ y.commands.0) × (z.pages.0 ≡ y.pages.0)
  delivers_counts y z r e = (ap (λ s. s.commands) e.result, ap (λ s. s.pages) e.result)

  pub commits : (x y z : Exchange M D) (r : ReceiptNumbers) → Counted x r y → Delivers m d y r z → Committed x z
  commits x y z r c e = ((delivers_counts y z r e).0 ∙ c.commands ∙ ap (λ n. x.commands.0 + n) c.covers, ap (λ s. s.staged) e.result ∙ c.given.staged)

  pub commits_told : (x y z : Exchange M D) (r : ReceiptNumbers) → Counted x r y → Delivers m d y r z → AllDelivered x → AllDelivered z
  commits_told x y z r c e a = (all_delivered x y z r a c.given e).1

  -- a ticket of the page that was just written does not come back, where the list is long enough
  no_reason : (p : Phase) (b c : Bool) (r : Refusal) → p ≡ phase.Written → b ≡ false → c ≡ false → first_fit ((not_in phase.Written p, WrongPhase) ∷ (b, ShortList) ∷ (c, WrongTicket) ∷ []) ≡ Some r → ⊥
  no_reason p b c r e f g h = absurd (let z : first_fit ((not_in phase.Written phase.Written, WrongPhase) ∷ (false, ShortList) ∷ (false, WrongTicket) ∷ []) ≡ Some r = (λ i. first_fit ((not_in phase.Written (sym e i), WrongPhase) ∷ (sym f i, ShortList) ∷ (sym g i, WrongTicket) ∷ [])) ∙ h in cc)

  pub opened_waits : (x y : Exchange M D) (p : PageNumber) → Called m d x (Open (Ok p)) y → NothingWaits y
  opened_waits x y p o = (ap (λ s. s.staged) o.result, ap (λ s. s.mark) o.result ∙ sym (ap (λ s. s.notices) o.result))

  pub caught_up : (x y : Exchange M D) (room : ℕ) → Called m d x (Replay room (Ok None)) y → NothingWaits x → NothingWaits y
  caught_up x y room c n = (ap (λ s. s.staged) c.result ∙ n.0, ap (λ s. s.mark) c.result ∙ n.1 ∙ sym (ap (λ s. s.notices) c.result))

  pub never_back : (x y z : Exchange M D) (t : TicketNumbers) (room : ℕ) (f : ExchangeFault) → Called m d x (Write (Ok t)) y → Called m d y (Sync t room (Err f)) z → 64 * length (vec_items y.staged) ≤ room → (reason_of f ≡ 9) ⊎ (reason_of f ≡ 10) → ⊥
  never_back x y z t room f w (refused r p e q) h v = no_reason y.phase (nat_lt room (64 * length (vec_items y.staged))) (not (eqb t.house.0 y.house.0 && eqb t.page.0 (suc y.pages.0))) r (ap (λ s. s.phase) w.result) (le-ltb room (64 * length (vec_items y.staged)) h) right p
    where
      house : eqb t.house.0 y.house.0 ≡ true
      house = eq-eqb t.house.0 y.house.0 (ap (λ k. k.house.0) w.ticket ∙ sym (ap (λ s. s.house.0) w.result))

      page : eqb t.page.0 (suc y.pages.0) ≡ true
      page = eq-eqb t.page.0 (suc y.pages.0) (ap (λ k. k.page.0) w.ticket ∙ ap suc (sym (ap (λ s. s.pages) w.result)))

      right : not (eqb t.house.0 y.house.0 && eqb t.page.0 (suc y.pages.0)) ≡ false
      right = λ i. not (house i && page i)
  never_back x y z t room f w (broke a k l (s, e, cut) q) h (inl n) = absurd (let c : ◌≡◌ {A = ℕ} 15 9 = sym (ap reason_of e) ∙ n in omega arith)
  never_back x y z t room f w (broke a k l (s, e, cut) q) h (inr n) = absurd (let c : ◌≡◌ {A = ℕ} 15 10 = sym (ap reason_of e) ∙ n in omega arith)

  pub covers_all : (x y : Exchange M D) → Called m d x (Snapshot (Ok tt)) y → NothingWaits x → AllCovered y
  covers_all x y c n = ((ap (λ s. s.staged) c.result ∙ n.0, ap (λ s. s.mark) c.result ∙ n.1 ∙ sym (ap (λ s. s.notices) c.result)), ap (λ s. s.covered) c.result ∙ sym (ap (λ s. s.pages) c.result))

  pub staged_delivered : (x y : Exchange M D) (bs : List ℕ) (r : Result CommandNumber ExchangeFault) → Called m d x (Stage bs r) y → AllDelivered x → AllDelivered y
  staged_delivered x y bs (Ok n) s a = ap (λ z. z.mark) s.result ∙ a ∙ sym (ap (λ z. z.notices) s.result)
  staged_delivered x y bs (Err f) (refused r p e q) a = ap (λ z. z.mark) q ∙ a ∙ sym (ap (λ z. z.notices) q)
  staged_delivered x y bs (Err f) (broke b k l n q) a = absurd n

  pub staged_or_delivered : (x y : Exchange M D) (c : Command) (r : Option Refusal) → StagedOr m d x c r y → AllDelivered x → AllDelivered y
  staged_or_delivered x y c None (n, s) a = staged_delivered x y (encoded c) (Ok n) s a
  staged_or_delivered x y c (Some r) (f, e, s) a = staged_delivered x y (encoded c) (Err f) s a

  pub refused_for : (x y : Exchange M D) (bs : List ℕ) (c : Command) (f : ExchangeFault) (r : Refusal) → bs ≡ encoded c → f.reason ≡ r → Called m d x (Stage bs (Err f)) y → StagedOr m d x c (Some r) y
  refused_for x y bs c f r e q s = (f, q, subst (λ z. Called m d x (Stage z (Err f)) y) e s)
