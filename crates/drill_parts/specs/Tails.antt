-- The calls that a drill makes after a script's own. Assumes nothing.
use Rattle.std.specs.Prelude.{◌≡◌, ℕ, ◌+◌, zero, suc, List, [], ◌∷◌, ◌++◌, Bool, true, false, vec_items}
use Rattle.records.specs.Commands.{encoded}
use Rattle.records.specs.declared.commands.Command.TheVariants.{Enter}
use Rattle.records.specs.declared.commands.Side.TheVariants.{Buy}
use Rattle.runner.specs.declared.script.Call.{Call}
use Rattle.runner.specs.declared.script.Call.TheVariants as call

abbrev pub is_write : Call → Bool
is_write call.Write = true
is_write c = false

-- a call that may answer a receipt
abbrev pub may_answer : Call → Bool
may_answer (call.Sync t room) = true
may_answer (call.Replay room) = true
may_answer c = false

-- a call for each number from 1 to this one
abbrev pub each_to : (ℕ → Call) → ℕ → List Call
each_to f zero = []
each_to f (suc n) = each_to f n ++ (f (suc n) ∷ [])

-- what is on the device is opened: so many replays come to the journal's end
abbrev pub opening : ℕ → List Call
opening n = call.Restart ∷ (call.Open ∷ each_to (λ r. call.Replay 1024) n)

-- an order of the first member, who buys one lot at 1, is staged
abbrev pub StagesOrder : Call → Type 0
StagesOrder (call.Stage bs) = vec_items bs ≡ encoded (Enter (record { 0 = 1 }) Buy (record { 0 = 1 }) (record { 0 = 1 }))
StagesOrder call.Write = ⊥
StagesOrder (call.Sync t room) = ⊥
StagesOrder (call.Deliver r) = ⊥
StagesOrder (call.Shelve r) = ⊥
StagesOrder call.Snapshot = ⊥
StagesOrder call.Restart = ⊥
StagesOrder call.Open = ⊥
StagesOrder (call.Replay room) = ⊥

abbrev pub next_day : ℕ → Call → List Call
next_day pages stage = stage ∷ (call.Write ∷ (each_to (λ t. call.Sync t 1024) pages ++ opening (pages + 1)))

-- The tail: two openings; every receipt that may be at hand is delivered, and a snapshot taken; one order more on a page of its
-- own, synced with the one ticket that is its; and a last opening.
abbrev pub tail : ℕ → ℕ → Call → List Call
tail pages receipts stage = opening pages ++ (opening pages ++ (each_to call.Deliver receipts ++ (call.Snapshot ∷ next_day pages stage)))

-- the calls that were there stand, and a tail follows
abbrev pub Followed : List Call → ℕ → ℕ → List Call → Type 0
Followed before pages receipts after = (stage : Call) × StagesOrder stage × (after ≡ before ++ tail pages receipts stage)
