-- What a log says of cuts, of openings, and of the pages that they bring. Assumes nothing.
use Rattle.std.specs.Prelude.{ℕ, ◌+◌, [], ◌∷◌, Bool, true, false, cond, List, Some, None, Ok, Err, Option, Result, ◌==◌, nat_lt}
use Rattle.protocol.specs.declared.faults.ExchangeFault.{ExchangeFault}
use Rattle.protocol.specs.Faults.{reason_of}
use Rattle.runner.specs.declared.log.HandedOut.{HandedOut}
use Rattle.runner.specs.declared.log.Entry.{Entry}
use Rattle.runner.specs.declared.log.Entry.TheVariants as entry
use Rattle.drill_parts.specs.declared.logs.PageWatch.{PageWatch}
use Rattle.drill_parts.specs.declared.logs.PageEvent.{PageEvent}
use Rattle.drill_parts.specs.declared.logs.PageEvent.TheVariants.{Nothing, Added, Lost}

-- a refusal with reason 15
abbrev pub ends_cut : {A : Type 0} → Result A ExchangeFault → Bool
ends_cut (Ok a) = false
ends_cut (Err f) = reason_of f == 15

abbrev pub is_cut : Entry → Bool
is_cut (entry.Stage bs a) = ends_cut a
is_cut (entry.Write a) = ends_cut a
is_cut (entry.Sync t room a) = ends_cut a
is_cut (entry.Deliver r a) = ends_cut a
is_cut (entry.Shelve r) = false
is_cut (entry.Snapshot a) = ends_cut a
is_cut entry.Restart = false
is_cut (entry.Open a) = ends_cut a
is_cut (entry.Replay room a) = ends_cut a
is_cut entry.Spent = false

-- the end of the journal: the exchange is live
abbrev pub goes_live : Entry → Bool
goes_live (entry.Replay room (Ok None)) = true
goes_live e = false

-- a page brings its receipt: it is now the last one with a receipt, and no page awaits one
abbrev pub received : HandedOut → PageWatch
received h = record { last = h.receipt.page; awaits = false }

-- a receipt that a replay answers
abbrev pub replayed : PageWatch → HandedOut → PageWatch
replayed w h = cond (nat_lt w.last.0 h.receipt.page.0) (received h) w

-- the watch after an entry
abbrev pub watched : PageWatch → Entry → PageWatch
watched w (entry.Write (Ok t)) = record { last = w.last; awaits = true }
watched w (entry.Write (Err f)) = cond (reason_of f == 15) (record { last = w.last; awaits = true }) w
watched w (entry.Sync t room (Ok h)) = received h
watched w (entry.Replay room (Ok (Some h))) = replayed w h
watched w (entry.Replay room (Ok None)) = record { last = w.last; awaits = false }
watched w e = w

-- what the entry told of the page that was sent
abbrev pub told : PageWatch → Entry → PageEvent
told w (entry.Replay room (Ok (Some h))) = cond (nat_lt w.last.0 h.receipt.page.0) Added Nothing
told w (entry.Replay room (Ok None)) = cond w.awaits Lost Nothing
told w e = Nothing

-- the place of the first entry that passes the test, counted on from a place; entries before `start` are passed over
abbrev pub first_from : (Entry → Bool) → ℕ → ℕ → List Entry → Option ℕ
first_from test start place [] = None
first_from test start place (e ∷ es) = cond (nat_lt place start) (first_from test start (place + 1) es) (cond (test e) (Some place) (first_from test start (place + 1) es))

-- an opening that found a header and its body
abbrev pub opened : {A : Type 0} → Result A ExchangeFault → Bool
opened (Ok a) = true
opened (Err f) = false

abbrev pub opens_well : Entry → Bool
opens_well (entry.Open a) = opened a
opens_well e = false

-- what is told of pages over a whole log
abbrev pub added_by : PageEvent → ℕ
added_by Nothing = 0
added_by Added = 1
added_by Lost = 0

abbrev pub lost_by : PageEvent → ℕ
lost_by Nothing = 0
lost_by Added = 0
lost_by Lost = 1

abbrev pub tally : (PageEvent → ℕ) → PageWatch → List Entry → ℕ
tally f w [] = 0
tally f w (e ∷ es) = f (told w e) + tally f (watched w e) es

-- nothing is sent yet
abbrev pub fresh : PageWatch
fresh = record { last = record { 0 = 0 }; awaits = false }
