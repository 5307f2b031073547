-- What a market's calls leave.
use Rattle.std.specs.Prelude.{◌≡◌, ℕ, ◌<◌, ◌≤◌, Bool, ◌&&◌, List, length, Some, None, Ok, Err, Option, Result, ◌==◌}
use Rattle.records.specs.declared.notices.Notice.{Notice}
use Rattle.records.specs.declared.refusals.Refusal.{Refusal}
use Rattle.records.specs.declared.refusals.Refusal.TheVariants.{ShortList, BadBody}
use Rattle.market.specs.Lists.{over}

-- a step to a state with notices is taken: they lie over the front of the lent list, and n says how many
pub record Taken {S : Type 0} (to : S × List Notice) (xs : List Notice) (s : S) (ys : List Notice) (n : ℕ) : Type 0 where
  pub state : s ≡ to.0
  pub number : n ≡ length to.1
  pub list : ys ≡ over xs to.1

-- a list shorter than 64 is refused, and nothing changes
pub record TooShort {S : Type 0} (s : S) (xs : List Notice) (t : S) (ys : List Notice) (e : Refusal) : Type 0 where
  pub short : length xs < 64
  pub reason : e ≡ ShortList
  pub state : t ≡ s
  pub list : ys ≡ xs

-- a command's answer: the step from s, or the refusal
abbrev pub Applied : {S : Type 0} → S → S × List Notice → List Notice → S → List Notice → Result ℕ Refusal → Type 0
Applied s to xs t ys (Ok n) = (64 ≤ length xs) × Taken to xs t ys n
Applied s to xs t ys (Err e) = TooShort s xs t ys e

-- a body that is no state's is refused, and nothing changes
pub record NoBody {S : Type 0} (found : Option S) (s t : S) (e : Refusal) : Type 0 where
  pub none : found ≡ None
  pub reason : e ≡ BadBody
  pub state : t ≡ s

-- a load's answer, from the state that the body is of: that state, or the refusal
abbrev pub Loaded : {S : Type 0} → Option S → S → S → Result (Unit {0}) Refusal → Type 0
Loaded found s t (Ok u) = found ≡ Some t
Loaded found s t (Err e) = NoBody found s t e

-- a notice that the exchange has not counted, of the command with this number
abbrev pub uncounted : ℕ → Notice → Bool
uncounted n v = v.number.0 == 0 && v.command.0 == n
