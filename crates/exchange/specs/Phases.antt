-- Which phase allows which call, and which phase follows.
use Rattle.std.specs.Prelude.{◌≡◌, Bool, true, false, Ok, Err, Result}
use Rattle.records.specs.declared.refusals.Refusal.{Refusal}
use Rattle.records.specs.declared.refusals.Refusal.TheVariants.{WrongPhase}
use Rattle.protocol.specs.declared.phases.Phase.{Phase}
use Rattle.protocol.specs.declared.phases.Phase.TheVariants.{Live, Written, Dark, Replaying}
use Rattle.protocol.specs.Steps.{not_in}
use Rattle.exchange.specs.declared.phases.Asked.{Asked}
use Rattle.exchange.specs.declared.phases.Asked.TheVariants as ask

-- from this phase alone, to that one
abbrev pub Only : Phase → Phase → Phase → Result Phase Refusal → Type 0
Only from to p (Ok n) = (p ≡ from) × (n ≡ to) × (not_in from p ≡ false)
Only from to p (Err r) = (not_in from p ≡ true) × (r ≡ WrongPhase)

abbrev pub Moves : Phase → Asked → Result Phase Refusal → Type 0
Moves p ask.SetUp r = Only Dark Live p r
Moves p ask.Stage r = Only Live Live p r
Moves p ask.Write r = Only Live Written p r
Moves p ask.Sync r = Only Written Live p r
Moves p ask.Snapshot r = Only Live Live p r
Moves p ask.Open r = Only Dark Replaying p r
Moves p ask.Replay r = Only Replaying Replaying p r

-- set up and open: the phase that they lead to
abbrev pub started : Asked → Phase
started ask.SetUp = Live
started ask.Stage = Dark
started ask.Write = Dark
started ask.Sync = Dark
started ask.Snapshot = Dark
started ask.Open = Replaying
started ask.Replay = Dark

abbrev pub starts : Asked → Bool
starts ask.SetUp = true
starts ask.Stage = false
starts ask.Write = false
starts ask.Sync = false
starts ask.Snapshot = false
starts ask.Open = true
starts ask.Replay = false
