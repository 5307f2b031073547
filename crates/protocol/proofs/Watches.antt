-- The record of a history with one thing more: the opening that goes on, and what was handed out in it.
use Rattle.std.proofs.Common.{◌≡◌, ℕ, suc, max, Bool, true, false, cond, List, [], ◌∷◌, ◌++◌, length, Some, None, Ok, Err, Option, refl, ap, ◌∙◌}
use Rattle.records.specs.Commands.{decoded}
use Rattle.records.specs.declared.commands.Command.{Command}
use Rattle.records.specs.declared.notices.Notice.{Notice}
use Rattle.protocol.specs.declared.tokens.ReceiptNumbers.{ReceiptNumbers}
use Rattle.protocol.specs.declared.faults.ExchangeFault.{ExchangeFault}
use Rattle.protocol.specs.Steps.{last_notice, Handed, Event, Stage, Write, Sync, Deliver, Shelve, Snapshot, Restart, Open, Replay}
use Rattle.protocol.specs.Promises.{History, Pages, Sent, Ledger, added, with_command, is_cut, note, ledger, recorded, highest_delivered}

-- the highest notice delivered before an opening, and the notices handed out since
pub record Opening : Type 0 where
  pub above : ℕ
  pub handed : List Notice

pub record Watch : Type 0 where
  pub kept : Pages
  pub draft : List Command
  pub sent : Option Sent
  pub highest : ℕ
  pub opening : Option Opening

abbrev pub as_ledger : Watch → Ledger
as_ledger l = record { kept = l.kept; draft = l.draft; sent = l.sent; highest = l.highest }

abbrev pub more : List Notice → Option Opening → Option Opening
more ns None = None
more ns (Some o) = Some (record { above = o.above; handed = o.handed ++ ns })

abbrev pub watch_drafts : List ℕ → Watch → Watch
watch_drafts bs l = record { kept = l.kept; draft = with_command (decoded bs) l.draft; sent = l.sent; highest = l.highest; opening = l.opening }

abbrev pub watch_sends : Watch → Watch
watch_sends l = record { kept = l.kept; draft = []; sent = Some (record { number = suc (length l.kept); page = l.draft }); highest = l.highest; opening = l.opening }

abbrev pub watch_answered : Handed → Watch → Watch
watch_answered h l = record { kept = added h.receipt.page.0 l.sent l.kept; draft = l.draft; sent = l.sent; highest = l.highest; opening = more h.notices l.opening }

abbrev pub watch_delivers : ReceiptNumbers → Watch → Watch
watch_delivers r l = record { kept = l.kept; draft = l.draft; sent = l.sent; highest = max l.highest (last_notice r); opening = l.opening }

abbrev pub watch_opens : Watch → Watch
watch_opens l = record { kept = l.kept; draft = l.draft; sent = l.sent; highest = l.highest; opening = Some (record { above = l.highest; handed = [] }) }

-- a restart, or 15: the opening has not reached live
abbrev pub watch_broken : Watch → Watch
watch_broken l = record { kept = l.kept; draft = []; sent = l.sent; highest = l.highest; opening = None }

abbrev pub watch_if_cut : ExchangeFault → Watch → Watch
watch_if_cut f l = cond (is_cut f) (watch_broken l) l

abbrev pub watch_note : Event → Watch → Watch
watch_note (Stage bs (Ok n)) l = watch_drafts bs l
watch_note (Stage bs (Err f)) l = watch_if_cut f l
watch_note (Write (Ok t)) l = watch_sends l
watch_note (Write (Err f)) l = cond (is_cut f) (watch_broken (watch_sends l)) l
watch_note (Sync t room (Ok h)) l = watch_answered h l
watch_note (Sync t room (Err f)) l = watch_if_cut f l
watch_note (Deliver r (Ok _)) l = watch_delivers r l
watch_note (Deliver r (Err f)) l = watch_if_cut f l
watch_note (Shelve r) l = l
watch_note (Snapshot (Ok _)) l = l
watch_note (Snapshot (Err f)) l = watch_if_cut f l
watch_note Restart l = watch_broken l
watch_note (Open (Ok p)) l = watch_opens l
watch_note (Open (Err f)) l = watch_if_cut f l
watch_note (Replay room (Ok (Some h))) l = watch_answered h l
watch_note (Replay room (Ok None)) l = l
watch_note (Replay room (Err f)) l = watch_if_cut f l

abbrev pub watch : History → Watch
watch [] = record { kept = []; draft = []; sent = None; highest = 0; opening = None }
watch (e ∷ h) = watch_note e (watch h)

-- but for the opening it is the ledger
by_cut : (b : Bool) (k l : Watch) → as_ledger (cond b k l) ≡ cond b (as_ledger k) (as_ledger l)
by_cut true k l = refl
by_cut false k l = refl

notes : (e : Event) (l : Watch) → as_ledger (watch_note e l) ≡ note e (as_ledger l)
notes (Stage bs (Ok n)) l = refl
notes (Stage bs (Err f)) l = by_cut (is_cut f) (watch_broken l) l
notes (Write (Ok t)) l = refl
notes (Write (Err f)) l = by_cut (is_cut f) (watch_broken (watch_sends l)) l
notes (Sync t room (Ok h)) l = refl
notes (Sync t room (Err f)) l = by_cut (is_cut f) (watch_broken l) l
notes (Deliver r (Ok u)) l = refl
notes (Deliver r (Err f)) l = by_cut (is_cut f) (watch_broken l) l
notes (Shelve r) l = refl
notes (Snapshot (Ok u)) l = refl
notes (Snapshot (Err f)) l = by_cut (is_cut f) (watch_broken l) l
notes Restart l = refl
notes (Open (Ok p)) l = refl
notes (Open (Err f)) l = by_cut (is_cut f) (watch_broken l) l
notes (Replay room (Ok (Some h))) l = refl
notes (Replay room (Ok None)) l = refl
notes (Replay room (Err f)) l = by_cut (is_cut f) (watch_broken l) l

pub agrees : (h : History) → as_ledger (watch h) ≡ ledger h
agrees [] = refl
agrees (e ∷ h) = notes e (watch h) ∙ ap (note e) (agrees h)

pub same_kept : (h : History) → (watch h).kept ≡ recorded h
same_kept h = ap (λ (l : Ledger). l.kept) (agrees h)

pub same_highest : (h : History) → (watch h).highest ≡ highest_delivered h
same_highest h = ap (λ (l : Ledger). l.highest) (agrees h)
